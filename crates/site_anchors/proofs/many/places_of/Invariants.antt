use Rattle.std.proofs.Common.{◌≡◌, map, take}
use Rattle.site_anchors.specs.Anchors.{place_told}
use Rattle.site_anchors.proofs.many.places_of.Given as goal

-- the places are those of the anchors so far
abbrev pub invariant-loop-anchor : goal.invariant-loop-anchor
invariant-loop-anchor l = l.places.items ≡ map (place_told l.site.history) (take l.anchor-index l.anchors)
