-- The inserts and deletes among the operations of a range.
use Rattle.std.specs.Prelude.{ℕ, List, [], ◌∷◌}
use Rattle.op_name.specs.NameData.{NameData}
use Rattle.context_diff.specs.Operations.{OpData, inserting, deleting, undoing}
use Rattle.site_ranges.specs.Ranges.{range_of}

-- the names of the inserts and deletes among these operations, in their order; undos and redos have none
abbrev pub originals_in : List OpData → List NameData
originals_in [] = []
originals_in (inserting n p text c ∷ os) = n ∷ originals_in os
originals_in (deleting n p c ∷ os) = n ∷ originals_in os
originals_in (undoing a t g c ∷ os) = originals_in os

-- those among so many operations of a history, from the one at this index on
abbrev pub originals_at : List OpData → ℕ → ℕ → List NameData
originals_at h from count = originals_in (range_of from count h)
