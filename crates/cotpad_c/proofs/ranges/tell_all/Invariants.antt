use Rattle.std.proofs.Common.{◌≡◌, ◌++◌, map, take, drop}
use Rattle.cotpad_c.specs.Operations.{original_told}
use Rattle.cotpad_c.proofs.ranges.tell_all.Given as goal

-- the names that were gone over are told in the front
abbrev pub invariant-loop-i : goal.invariant-loop-i
invariant-loop-i l = l.out ≡ map original_told (take l.i l.names) ++ drop l.i l.initial.out
