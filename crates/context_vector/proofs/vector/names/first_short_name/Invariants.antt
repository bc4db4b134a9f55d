use Rattle.std.proofs.Common.{◌≡◌, ◌+◌, length}
use Rattle.context_vector.specs.Contexts.{entry_in, AreEntries}
use Rattle.context_vector.specs.Shortfalls.{first_short}
use Rattle.context_vector.proofs.vector.names.first_short_name.Given as goal

-- no name that was passed is short
abbrev pub invariant-loop-wanted : goal.invariant-loop-wanted
invariant-loop-wanted l =
    AreEntries l.left × AreEntries l.right × (first_short (entry_in l.fn.mine) l.fn.theirs ≡ first_short (entry_in l.left) l.right)

abbrev pub decreases-loop-wanted : goal.decreases-loop-wanted
decreases-loop-wanted l = length l.left + length l.right
