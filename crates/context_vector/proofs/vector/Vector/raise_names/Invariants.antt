use Rattle.std.proofs.Common.{◌≡◌, length}
use Rattle.std.specs.Prelude.{◌||◌}
use Rattle.op_name.specs.declared.member.Member.{Member}
use Rattle.context_vector.specs.Contexts.{has, AreEntries}
use Rattle.context_vector.specs.Code.Lists.{of_entries}
use Rattle.context_vector.proofs.vector.Vector.raise_names.Given as goal

-- what is in the vector or still to come is what was in it or in the list
abbrev pub invariant-loop-name : goal.invariant-loop-name
invariant-loop-name l = AreEntries l.left
    × ((y : Member) → (has l.self.set y || has (of_entries l.left) y) ≡ (has l.initial.self.set y || has (of_entries l.fn.names) y))

abbrev pub decreases-loop-name : goal.decreases-loop-name
decreases-loop-name l = length l.left
