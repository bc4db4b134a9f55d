-- The inserts and deletes of a history by their names, and the cells that deletes hit.
use Rattle.std.specs.Prelude.{ℕ, List, [], ◌∷◌, Option, None, Some, slice_get, if◌then◌else◌}
use Rattle.op_name.specs.declared.member.Member.TheVariants.{Original}
use Rattle.op_name.specs.NameData.{NameData}
use Rattle.op_name.specs.Members.{member_eq}
use Rattle.context_vector.specs.Contexts.{ContextData, has}
use Rattle.context_diff.specs.Operations.{OpData, member_of}
use Rattle.context_diff.specs.Replays.{Cell, replay_of, seen}

-- the insert or delete of this name, if the history has it
abbrev pub original_in : List OpData → NameData → Option OpData
original_in [] n = None
original_in (o ∷ os) n = if member_eq (member_of o) (Original n) then Some o else original_in os n

-- the cell that a delete at this place, made in this context, hits: the one that stands there among those cells of the replay that the
-- context holds. In a valid history it is the one cell that the delete hits (`hits`)
abbrev pub cell_hit : List OpData → ℕ → ContextData → Option Cell
cell_hit h p k = slice_get (seen (λ m. has k (Original m)) (replay_of h)) p
