use Rattle.std.proofs.Common.{◌≡◌, length}
use Rattle.context_vector.specs.Contexts.{count_in, AreCounts}
use Rattle.context_vector.specs.Code.Readers.{left_of}
use Rattle.context_vector.proofs.vector.counting.count_of.Given as goal

-- only lesser sites are passed
abbrev pub invariant-loop-left : goal.invariant-loop-left
invariant-loop-left l = record {
  are : AreCounts 0 (left_of l.left);
  same : count_in (left_of l.fn.counts) l.site ≡ count_in (left_of l.left) l.site;
}

abbrev pub decreases-loop-left : goal.decreases-loop-left
decreases-loop-left l = length (left_of l.left)
