use Rattle.std.proofs.Common.{◌≡◌, ◌+◌, length}
use Rattle.context_vector.specs.Code.Readers.{left_of}
use Rattle.context_vector.proofs.vector.counting.sites.Given as goal

-- sites that were passed and those that are left make all of them
abbrev pub invariant-loop-left : goal.invariant-loop-left
invariant-loop-left l = l.sum + length (left_of l.left) ≡ length (left_of l.fn.counts)

abbrev pub decreases-loop-left : goal.decreases-loop-left
decreases-loop-left l = length (left_of l.left)
