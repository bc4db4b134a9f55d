use Rattle.std.proofs.Common.{◌≡◌, ◌+◌, length}
use Rattle.context_vector.specs.Contexts.{sum_of_counts}
use Rattle.context_vector.specs.Code.Readers.{left_of}
use Rattle.context_vector.proofs.vector.counting.total.Given as goal

-- what is added up and what is left make the whole sum
abbrev pub invariant-loop-count : goal.invariant-loop-count
invariant-loop-count l = l.sum + sum_of_counts (left_of l.left) ≡ sum_of_counts (left_of l.fn.counts)

abbrev pub decreases-loop-count : goal.decreases-loop-count
decreases-loop-count l = length (left_of l.left)
