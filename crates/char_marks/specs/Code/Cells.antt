-- Cells of a text as the code seeks them.
use Rattle.std.specs.Prelude.{◌≡◌, ℕ, ◌+◌, ◌-◌, List, Some, filter, length, slice_get, take, drop}
use Rattle.op_name.specs.declared.member.Member.TheVariants.{Original}
use Rattle.context_vector.specs.Contexts.{ContextData, has}
use Rattle.context_diff.specs.Operations.{OpData}
use Rattle.context_diff.specs.Replays.{Cell, replay_of}
use Rattle.tombstone_text.specs.declared.cell.CellId.{CellId}
use Rattle.char_marks.specs.declared.seeking.Sought.{Sought}
use Rattle.char_marks.specs.declared.seeking.Sought.TheVariants.{Found, Passed}
use Rattle.char_marks.specs.declared.seeking.Ends.{Ends}
use Rattle.char_marks.specs.declared.spot.Spot.{Spot}
use Rattle.char_marks.specs.Covered.{seen_in}

-- the cell of this name and offset
abbrev pub cell_at : CellId → Cell
cell_at id = (id.name, id.offset)

-- the cells whose inserts the context has
abbrev pub seen_among : ContextData → List Cell → List Cell
seen_among c cells = filter (λ d. has c (Original d.0)) cells

-- the n-th of these was found, or there are only so many fewer
abbrev pub IsSought : ContextData → List Cell → ℕ → Sought → Type 0
IsSought c cells n (Found id) = slice_get (seen_among c cells) n ≡ Some (cell_at id)
IsSought c cells n (Passed k) = n ≡ length (seen_among c cells) + k

-- the first and the last of so many seen cells from a place on
pub record AreEnds (h : List OpData) (c : ContextData) (place len : ℕ) (ends : Ends) : Type 0 where
  pub first : slice_get (take len (drop place (seen_in h c))) 0 ≡ Some (cell_at ends.first)
  pub last : slice_get (take len (drop place (seen_in h c))) (len - 1) ≡ Some (cell_at ends.last)

-- the cell stands at this place of the replay
abbrev pub Stands : List OpData → Spot → Type 0
Stands h s = slice_get (replay_of h) s.at ≡ Some (cell_at s.id)
