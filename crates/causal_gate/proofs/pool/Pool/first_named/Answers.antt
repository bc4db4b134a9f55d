use Rattle.std.proofs.Common.{◌≡◌, ◌∙◌, ap, sym, refl, arith, Bor}
use Rattle.std.specs.Prelude.{Some, slice_get, option_map}
use Rattle.std.proofs.lemmas.Bool.{true≢false, false≢true}
use Rattle.op_name.specs.declared.member.Member.TheVariants.{Original}
use Rattle.context_diff.specs.Operations.{OpData, member_of}
use Rattle.op_name.proofs.CallerLemmas.{member_same}
use Rattle.context_diff.specs.Ops.{data_of}
use Rattle.context_diff.specs.declared.op.Op.{Op}
use Rattle.causal_gate.proofs.Places.{contains_at}
use Rattle.causal_gate.proofs.Found.{known_at, known_nowhere}
use Rattle.causal_gate.proofs.pool.Pool.first_named.Goals as goal

pub returns-then-is_named-clause-none : goal.returns-then-is_named-clause-none
returns-then-is_named-clause-none c =
    let o : OpData = data_of c.in-Some.op.now in
    let at : slice_get c.args.self.now c.loop-i.i ≡ Some o =
    sym c.get.ensures ∙ ap (option_map (λ (b : Bor Op). data_of b.now)) c.in-Some.is in
    let is : member_of o ≡ Original c.args.name.now =
    member_same (member_of o) (Original c.args.name.now) (sym c.is_named.ensures ∙ c.if-is_named.true) in (
      λ no. absurd (true≢false no),
      λ unknown.
          absurd (false≢true (sym unknown ∙ known_at c.args.self.now c.loop-i.i o (Original c.args.name.now) at is)),
    )

pub returns-then-is_named-clause-there : goal.returns-then-is_named-clause-there
returns-then-is_named-clause-there c =
    contains_at c.args.self.now c.loop-i.i (data_of c.in-Some.op.now)
    (sym c.get.ensures ∙ ap (option_map (λ (b : Bor Op). data_of b.now)) c.in-Some.is)

pub returns-clause-none : goal.returns-clause-none
returns-clause-none c =
    (λ end. known_nowhere c.args.self.now (Original c.args.name.now) (λ i o within at. c.loop-i.invariant i o (omega arith) at), λ no. refl)
