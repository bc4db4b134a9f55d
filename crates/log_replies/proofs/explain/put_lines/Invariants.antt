use Rattle.std.proofs.Common.{◌≡◌}
use Rattle.log_replies.proofs.Traces.{AreWritten}
use Rattle.log_replies.proofs.explain.put_lines.Given as goal

-- the lines before this one are written, and counted
abbrev pub invariant-loop-line : goal.invariant-loop-line
invariant-loop-line l = (l.number ≡ l.line-index) × AreWritten l.book.ops l.initial.out.items l.lines l.line-index l.out.items
