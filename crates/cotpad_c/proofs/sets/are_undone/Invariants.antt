use Rattle.std.proofs.Common.{length}
use Rattle.std.specs.Prelude.{◌↔◌}
use Rattle.context_vector.specs.Contexts.{AreEntries, IsBefore}
use Rattle.cotpad_c.specs.Pasts.{name_told, undone_told}
use Rattle.cotpad_c.proofs.sets.are_undone.Given as goal

-- the list is one of undone names exactly if what is left is one, after the last name
abbrev pub invariant-loop-member : goal.invariant-loop-member
invariant-loop-member l =
    AreEntries (undone_told l.undone) ↔ (AreEntries (undone_told l.left) × IsBefore (name_told l.last) (undone_told l.left))

abbrev pub decreases-loop-member : goal.decreases-loop-member
decreases-loop-member l = length l.left
