use Rattle.std.proofs.Common.{◌≡◌, ◌++◌, map, take, drop}
use Rattle.cotpad_c.specs.Changes.{change_told}
use Rattle.cotpad_c.proofs.changes.tell_all.Given as goal

-- the changes that were gone over are told in the front
abbrev pub invariant-loop-i : goal.invariant-loop-i
invariant-loop-i l = l.out ≡ map change_told (take l.i l.changes) ++ drop l.i l.initial.out
