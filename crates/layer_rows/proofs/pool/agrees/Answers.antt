use Rattle.std.proofs.Common.{◌≡◌, ◌∙◌, false, ap, sym, subst, refl, rules}
use Rattle.std.proofs.lemmas.Bool.{false≢true}
use Rattle.std.specs.Prelude.{Contains}
use Rattle.op_name.specs.declared.member.Member.{Member}
use Rattle.op_name.specs.declared.member.Member.TheVariants.{Original}
use Rattle.context_diff.specs.Operations.{OpData, member_of}
use Rattle.context_diff.specs.Histories.{is_known}
use Rattle.context_diff.specs.Ops.{data_of}
use Rattle.context_diff.proofs.CallerLemmas.{op_same, derived_op, known_member}
use Rattle.causal_gate.proofs.CallerLemmas.{named_once}
use Rattle.layer_rows.proofs.pool.agrees.Goals as goal

pub returns-in-Some : goal.returns-in-Some
returns-in-Some c equal =
    let other = c.in-Some.other.now in
    let o = c.args.op.now in
    let same : data_of other ≡ data_of o = op_same (data_of other) (data_of o) (sym (derived_op other o) ∙ sym c.eq.ensures ∙ equal) in
    let here : Contains c.args.pool.now (data_of o) = subst (λ (x : OpData). Contains c.args.pool.now x) same c.in-Some.ensures.there in
    λ x n there at mine. named_once c.args.pool.now c.known.ensures.apart x (data_of o) n there here at mine

pub returns-in-None : goal.returns-in-None
returns-in-None c alone =
    let o = c.args.op.now in
    let is : member_of (data_of o) ≡ Original c.in-Insert.name = search rules in
    let unknown : is_known c.args.pool.now (member_of (data_of o)) ≡ false =
    subst (λ (m : Member). is_known c.args.pool.now m ≡ false) (sym is) (c.in-None.ensures.none.0 refl) in
    λ x n there at mine. absurd (false≢true
    (sym unknown ∙ ap (is_known c.args.pool.now) (mine ∙ sym at) ∙ known_member c.args.pool.now x there))
