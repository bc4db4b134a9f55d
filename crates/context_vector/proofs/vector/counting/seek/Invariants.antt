use Rattle.std.proofs.Common.{◌≡◌, ◌++◌, ℕ, List, length}
use Rattle.context_vector.specs.Contexts.{AreCounts}
use Rattle.context_vector.specs.Vectors.{SitesBelow}
use Rattle.context_vector.specs.Code.Readers.{left_of}
use Rattle.context_vector.proofs.vector.counting.seek.Given as goal

-- only lesser sites are passed
abbrev pub invariant-loop-part : goal.invariant-loop-part
invariant-loop-part l = record {
  are : AreCounts 0 (left_of l.counts);
  lesser : (xs : List (ℕ × ℕ)) × (length xs ≡ l.passed) × (left_of l.initial.counts ≡ xs ++ left_of l.counts) × SitesBelow xs l.site;
}

abbrev pub decreases-loop-part : goal.decreases-loop-part
decreases-loop-part l = length (left_of l.counts)
