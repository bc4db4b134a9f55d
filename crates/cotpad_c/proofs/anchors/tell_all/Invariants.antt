use Rattle.std.proofs.Common.{◌≡◌, ◌++◌, map, take, drop}
use Rattle.cotpad_c.specs.Anchors.{place_number}
use Rattle.cotpad_c.proofs.anchors.tell_all.Given as goal

-- the places that were gone over are told in the front
abbrev pub invariant-loop-i : goal.invariant-loop-i
invariant-loop-i l = l.places ≡ map place_number (take l.i l.found) ++ drop l.i l.initial.places
