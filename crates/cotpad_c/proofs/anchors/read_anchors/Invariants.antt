use Rattle.std.proofs.Common.{◌≡◌, map, take}
use Rattle.cotpad_c.specs.Code.{anchor_or_nowhere}
use Rattle.cotpad_c.proofs.anchors.read_anchors.Given as goal

-- the anchors are those that were given so far
abbrev pub invariant-loop-anchor : goal.invariant-loop-anchor
invariant-loop-anchor l = l.anchors.items ≡ map anchor_or_nowhere (take l.anchor-index l.given)
