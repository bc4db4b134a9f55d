use Rattle.std.proofs.Common.{ap, sym, ◌∙◌}
use Rattle.op_name.specs.declared.member.Member.TheVariants.{Original}
use Rattle.context_vector.specs.Contexts.{ContextData, has}
use Rattle.context_diff.specs.Ops.{data_of}
use Rattle.causal_gate.proofs.Turns.{before_is}
use Rattle.causal_gate.proofs.rows.before_in.Goals as goal

pub returns-in-Some : goal.returns-in-Some
returns-in-Some c =
    before_is (data_of c.args.op.now) c.in-Some.before c.in-Some.ensures
    (ap (λ (d : ContextData). has d (Original c.in-Some.before)) (sym c.context.ensures) ∙ sym c.contains.ensures ∙ c.if-contains.true)
