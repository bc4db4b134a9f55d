use Rattle.std.proofs.Common.{◌≡◌, [], ◌++◌, length}
use Rattle.cotpad_c.specs.Pasts.{counts_told}
use Rattle.cotpad_c.proofs.sets.with_counts.Given as goal

-- the counts so far and what is left make the list
abbrev pub invariant-loop-count : goal.invariant-loop-count
invariant-loop-count l = (l.set.set.counts ++ counts_told l.left ≡ counts_told l.counts) × (l.set.set.entries ≡ [])

abbrev pub decreases-loop-count : goal.decreases-loop-count
decreases-loop-count l = length l.left
