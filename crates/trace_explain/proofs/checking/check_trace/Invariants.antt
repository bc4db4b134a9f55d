use Rattle.trace_explain.proofs.CheckedLines.{AreRightUpTo}
use Rattle.trace_explain.proofs.checking.check_trace.Given as goal

abbrev pub invariant-loop-line : goal.invariant-loop-line
invariant-loop-line l = AreRightUpTo l.book.ops l.lines l.rows.items l.line-index
