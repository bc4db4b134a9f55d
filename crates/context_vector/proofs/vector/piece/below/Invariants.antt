use Rattle.std.proofs.Common.{◌-◌, ◌≤◌, length}
use Rattle.context_vector.proofs.vector.piece.below.Given as goal

-- the answer is between two places of the list
abbrev pub invariant-loop-low : goal.invariant-loop-low
invariant-loop-low g l = (l.low ≤ l.high) × (l.high ≤ length l.list)

abbrev pub decreases-loop-low : goal.decreases-loop-low
decreases-loop-low g l = l.high - l.low
