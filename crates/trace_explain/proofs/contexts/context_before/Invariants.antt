use Rattle.trace_explain.proofs.Executed.{IsUpTo}
use Rattle.trace_explain.proofs.contexts.context_before.Given as goal

abbrev pub invariant-loop-i : goal.invariant-loop-i
invariant-loop-i l = IsUpTo l.book.ops l.m l.i l.context.set
