use Rattle.std.proofs.Common.{◌≡◌, ◌++◌, length}
use Rattle.cotpad_c.specs.Pasts.{undone_told}
use Rattle.cotpad_c.proofs.sets.with_undone.Given as goal

-- the names so far and what is left make the list
abbrev pub invariant-loop-member : goal.invariant-loop-member
invariant-loop-member l =
    (l.set.set.entries ++ undone_told l.left ≡ undone_told l.undone) × (l.set.set.counts ≡ l.initial.set.set.counts)

abbrev pub decreases-loop-member : goal.decreases-loop-member
decreases-loop-member l = length l.left
