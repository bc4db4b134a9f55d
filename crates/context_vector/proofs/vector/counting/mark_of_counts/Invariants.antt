use Rattle.std.proofs.Common.{◌≡◌, length}
use Rattle.context_vector.specs.Marks.{counts_mark}
use Rattle.context_vector.specs.Code.Readers.{left_of}
use Rattle.context_vector.proofs.vector.counting.mark_of_counts.Given as goal

-- what is left, laid over the mark so far, makes the whole mark
abbrev pub invariant-loop-count : goal.invariant-loop-count
invariant-loop-count l = counts_mark l.mark (left_of l.left) ≡ counts_mark 0 (left_of l.fn.counts)

abbrev pub decreases-loop-count : goal.decreases-loop-count
decreases-loop-count l = length (left_of l.left)
