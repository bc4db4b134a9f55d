use Rattle.std.proofs.Common.{sym, ◌∙◌}
use Rattle.context_vector.specs.Equality.{context_eq_decides}
use Rattle.trace_explain.proofs.row.are_equal.Goals as goal

pub returns : goal.returns
returns c =
    let d = context_eq_decides c.args.a.now.set c.args.b.now.set in
    (λ t. d.0 (sym c.eq.ensures ∙ t), λ e. c.eq.ensures ∙ d.1 e)
