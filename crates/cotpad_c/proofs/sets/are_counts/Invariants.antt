use Rattle.std.proofs.Common.{length}
use Rattle.std.specs.Prelude.{◌↔◌}
use Rattle.context_vector.specs.Contexts.{AreCounts}
use Rattle.cotpad_c.specs.Pasts.{counts_told}
use Rattle.cotpad_c.proofs.sets.are_counts.Given as goal

-- the list is one of counts exactly if what is left is one, from this site on
abbrev pub invariant-loop-count : goal.invariant-loop-count
invariant-loop-count l = AreCounts 0 (counts_told l.counts) ↔ AreCounts l.low (counts_told l.left)

abbrev pub decreases-loop-count : goal.decreases-loop-count
decreases-loop-count l = length l.left
