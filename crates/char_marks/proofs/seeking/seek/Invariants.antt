use Rattle.std.proofs.Common.{[], get_or, length}
use Rattle.char_marks.proofs.Passing.{IsLeft}
use Rattle.char_marks.proofs.seeking.seek.Given as goal

-- so many are still to be passed
abbrev pub invariant-loop-cell : goal.invariant-loop-cell
invariant-loop-cell l = IsLeft l.context.set (get_or l.cells.chunks l.chunk []) l.fn.n l.left l.more

abbrev pub decreases-loop-cell : goal.decreases-loop-cell
decreases-loop-cell l = length l.left
