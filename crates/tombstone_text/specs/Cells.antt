-- A text as contracts see it: its cells beside their characters, the chunks that both are kept in, and the room to spare.
use Rattle.std.specs.Prelude.{◌≡◌, ℕ, ◌+◌, ◌<◌, ◌≤◌, ◌==◌, ◌&&◌, Bool, Option, Some, List, length, slice_get, slice_index_or, IfSome}
use Rattle.op_name.specs.NameData.{name_eq}
use Rattle.ttf_form.specs.declared.include.TheConstants.{CELLS}
use Rattle.ttf_form.specs.Cells.{CellData}
use Rattle.ttf_form.specs.Forms.{ins_extent}
use Rattle.ttf_form.specs.declared.ins.Ins.{Ins}
use Rattle.ttf_form.specs.declared.cover.Mark.{Mark}
use Rattle.ttf_form.specs.declared.cover.Mark.TheVariants.{Own, By}
use Rattle.ttf_form.specs.declared.form.Form.{Form}
use Rattle.ttf_form.specs.declared.form.Form.TheVariants.{Ins as Insert, Cover as Covered}
use Rattle.tombstone_text.specs.declared.cell.CellId.{CellId}
use Rattle.tombstone_text.specs.declared.chunk.TheConstants.{GAPS}
use Rattle.tombstone_text.specs.Code.Spans.{IsSpot}

-- a place at which so many cells may come in
pub record Opening : Type 0 where
  pub place : ℕ
  pub len : ℕ

-- where cells may come in without memory, places for the deleters of one cell, and for how many spans more each chunk has room
pub record Room : Type 0 where
  pub ready : Option Opening
  pub deleters : ℕ
  pub gaps : List ℕ

-- the cells in the order in which they stand, shown or hidden, the text beside them, which has a character for each, the chunks
-- that both are kept in, and the room
pub record CellsData : Type 0 where
  pub chunks : List (List CellData)
  pub cells : List CellData
  pub texts : List (List ℕ)
  pub text : List ℕ
  pub room : Room

-- a mark takes room only where it may add a deleter: a place for it beside those that the cell has
abbrev pub HasRoomOn : Mark → CellData → ℕ → Type 0
HasRoomOn (Own g) c places = Unit {0}
HasRoomOn (By d g) c places = length c.deleters < places

-- the chunk of the cell at the place has room for the spans that a mark adds
abbrev pub HasGaps : List (List CellData) → List ℕ → ℕ → Type 0
HasGaps chunks gaps p = (i o : ℕ) → IsSpot chunks i o p → GAPS ≤ slice_index_or gaps i 0

-- the cells of an insert may come in at its place
abbrev pub IsOpenFor : Room → Ins → Type 0
IsOpenFor r a = r.ready ≡ Some (record { place = a.place; len = a.len })

-- there is room to apply the form: for the cells that an insert adds at its place, up to the greatest number of cells, or
-- for the deleter that a cover may add, and for the spans
abbrev pub HasRoomFor : CellsData → Form → Type 0
HasRoomFor t (Insert a) = IsOpenFor t.room a × (length t.cells + ins_extent a ≤ CELLS)
HasRoomFor t (Covered c) =
    IfSome (slice_get t.cells c.place) (λ d. HasRoomOn c.mark d t.room.deleters) × HasGaps t.chunks t.room.gaps c.place

-- the cell is that with the name and the offset
abbrev pub is_cell : CellId → CellData → Bool
is_cell id c = name_eq c.name id.name && (c.offset == id.offset)
