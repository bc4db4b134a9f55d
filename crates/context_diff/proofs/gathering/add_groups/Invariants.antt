use Rattle.std.proofs.Common.{◌≡◌, ℕ, drop, length}
use Rattle.context_diff.specs.Histories.{members_in}
use Rattle.context_diff.specs.Code.Places.{ArePlacesOf, is_missing, first_names}
use Rattle.context_diff.proofs.gathering.add_groups.Given as goal

-- the places so far are those of what is missing of the first ones
abbrev pub invariant-loop-undone : goal.invariant-loop-undone
invariant-loop-undone l =
    (i : ℕ) × (l.left ≡ drop i l.to.set.entries) × ArePlacesOf (members_in l.book.ops) (is_missing l.from.set (first_names l.to.set i))
    l.places.items

abbrev pub decreases-loop-undone : goal.decreases-loop-undone
decreases-loop-undone l = length l.left
