use Rattle.std.proofs.Common.{◌≡◌}
use Rattle.cotpad_c.proofs.runs.characters.Given as goal

-- the characters that were gone over are in the list
abbrev pub invariant-loop-ch : goal.invariant-loop-ch
invariant-loop-ch l = l.list.items ≡ l.yielded
