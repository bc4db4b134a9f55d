use Rattle.std.proofs.Common.{◌≡◌, false, ap, sym, ◌∙◌, rules}
use Rattle.op_name.specs.declared.member.Member.TheVariants.{Original}
use Rattle.context_diff.specs.Operations.{member_of, is_original}
use Rattle.context_diff.specs.Histories.{is_known}
use Rattle.context_diff.specs.Ops.{data_of}
use Rattle.context_diff.proofs.CallerLemmas.{known_member}
use Rattle.causal_gate.proofs.Named.{named_waits}
use Rattle.causal_gate.proofs.pool.Pool.has.Goals as goal

pub returns-in-Insert : goal.returns-in-Insert
returns-in-Insert c =
    let os = c.args.self.now in
    let o = data_of c.args.op.now in
    let is : member_of (data_of c.args.op.now) ≡ Original c.in-Insert.name = search rules in (
      λ waits. named_waits os o c.in-Insert.name c.requires is (sym c.has_name.ensures ∙ waits),
      λ there. c.has_name.ensures ∙ ap (is_known os) (sym is) ∙ known_member os o there,
    )

pub has_undo-requires : goal.has_undo-requires
has_undo-requires c =
    let undo : is_original (data_of c.args.op.now) ≡ false = search rules in
    undo
