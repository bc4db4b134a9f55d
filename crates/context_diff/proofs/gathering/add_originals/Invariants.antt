use Rattle.std.proofs.Common.{◌≡◌, ℕ, drop, length}
use Rattle.context_diff.specs.Histories.{members_in}
use Rattle.context_diff.specs.Code.Places.{ArePlacesOf, is_missing, first_sites}
use Rattle.context_diff.proofs.gathering.add_originals.Given as goal

-- the places so far are those of what is missing of the first ones
abbrev pub invariant-loop-site : goal.invariant-loop-site
invariant-loop-site l =
    (i : ℕ) × (l.left ≡ drop i l.to.set.counts) × ArePlacesOf (members_in l.book.ops) (is_missing l.from.set (first_sites l.to.set i))
    l.places.items

abbrev pub decreases-loop-site : goal.decreases-loop-site
decreases-loop-site l = length l.left
