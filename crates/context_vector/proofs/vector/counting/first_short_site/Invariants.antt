use Rattle.std.proofs.Common.{◌≡◌, ◌+◌, length}
use Rattle.context_vector.specs.Contexts.{count_in, AreCounts}
use Rattle.context_vector.specs.Shortfalls.{first_short}
use Rattle.context_vector.specs.Code.Readers.{left_of}
use Rattle.context_vector.proofs.vector.counting.first_short_site.Given as goal

-- no site that was passed is short
abbrev pub invariant-loop-wanted : goal.invariant-loop-wanted
invariant-loop-wanted l = record {
  mine : AreCounts 0 (left_of l.left);
  theirs : AreCounts 0 (left_of l.right);
  same : first_short (count_in (left_of l.fn.mine)) (left_of l.fn.theirs) ≡ first_short (count_in (left_of l.left)) (left_of l.right);
}

abbrev pub decreases-loop-wanted : goal.decreases-loop-wanted
decreases-loop-wanted l = length (left_of l.left) + length (left_of l.right)
