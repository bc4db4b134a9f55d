-- Where cells are sought, and which places a list has once they are found.
use Rattle.std.specs.Prelude.{◌≡◌, ◌⊎◌, ◌↔◌, ℕ, ◌<◌, ◌≤◌, List, Contains, Some, length, slice_get}
use Rattle.op_name.specs.NameData.{NameData}
use Rattle.context_diff.specs.Operations.{OpData, inserting, deleting, undoing}
use Rattle.context_diff.specs.Replays.{Cell}
use Rattle.ttf_form.specs.Cells.{CellData}
use Rattle.touched_cells.specs.Touched.{IsDeletedBy, IsBearer, name_touched}

-- at most one place is such
abbrev pub AtMostOne : (ℕ → Type 0) → Type 0
AtMostOne P = (p q : ℕ) → P p → P q → p ≡ q

-- the new list has the old places and those that are such, and no others
abbrev pub AreWith : (ℕ → Type 0) → List ℕ → List ℕ → Type 0
AreWith P old new = (p : ℕ) → Contains new p ↔ (Contains old p ⊎ P p)

-- the cell of this name and offset stands at the place
abbrev pub StandsAt : List Cell → Cell → ℕ → Type 0
StandsAt ks c p = slice_get ks p ≡ Some c

-- no cell stands at two places
abbrev pub StandOnce : List Cell → Type 0
StandOnce ks = (c : Cell) → AtMostOne (StandsAt ks c)

-- one of the first cells of the insert stands at the place, of so many
abbrev pub IsOneOf : List Cell → NameData → ℕ → ℕ → Type 0
IsOneOf ks n count p = (j : ℕ) × (j < count) × StandsAt ks (n, j) p

-- at the place stands a cell that the delete of this name hit
pub record IsDeletedAt (cs : List CellData) (n : NameData) (p : ℕ) : Type 0 where
  pub cell : CellData
  pub there : slice_get cs p ≡ Some cell
  pub deleted : IsDeletedBy cell n

-- the cell is the only one that the operation touched: an insert of one character put it, or a delete hit it
abbrev pub IsOnlyOf : OpData → CellData → Type 0
IsOnlyOf (inserting n place text k) d = (length text ≡ 1) × (d.name ≡ n)
IsOnlyOf (deleting n place k) d = IsDeletedBy d n
IsOnlyOf (undoing a t g k) d = ⊥

-- the cell at the place bears the name that some operation of the history touches, from one on and before another one
pub record IsTouchedBetween (h : List OpData) (from to : ℕ) (cs : List CellData) (p : ℕ) : Type 0 where
  pub index : ℕ
  pub op : OpData
  pub late : from ≤ index
  pub early : index < to
  pub there : slice_get h index ≡ Some op
  pub bearer : IsBearer cs (name_touched op) p
