use Rattle.trace_explain.proofs.ExecutedForms.{row_derived}
use Rattle.trace_explain.proofs.checking.row_of.Goals as goal

pub step_row-requires-clause-left : goal.step_row-requires-clause-left
step_row-requires-clause-left c =
    row_derived c.args.book.now.ops c.args.rows.now c.in-Step.left c.in-Some.a.now c.requires c.in-Some.ensures.there

pub step_row-requires-clause-over : goal.step_row-requires-clause-over
step_row-requires-clause-over c =
    row_derived c.args.book.now.ops c.args.rows.now c.in-Step.over c.in-Some-row_at.b.now c.requires c.in-Some-row_at.ensures.there
