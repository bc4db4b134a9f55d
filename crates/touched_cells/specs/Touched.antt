-- Which cells of a text the operations of a history touched, from one of them on.
use Rattle.std.specs.Prelude.{◌≡◌, ◌⊎◌, ◌↔◌, ℕ, ◌<◌, List, Contains, Some, All, drop, length, slice_get}
use Rattle.std.specs.List.Sorted.{IsStrictlyIncreasing}
use Rattle.op_name.specs.NameData.{NameData}
use Rattle.op_name.specs.Members.{target_of}
use Rattle.context_diff.specs.Operations.{OpData, member_of}
use Rattle.ttf_form.specs.Cells.{CellData}
use Rattle.ttf_form.specs.Families.{IsIn}

-- the name that an operation touches: of an insert or a delete its own, of an undo or a redo that of the insert or delete that it is of
abbrev pub name_touched : OpData → NameData
name_touched o = target_of (member_of o)

-- the delete of this name hit the cell
abbrev pub IsDeletedBy : CellData → NameData → Type 0
IsDeletedBy d n = (g : ℕ) × IsIn (n, g) d.deleters

-- the cell bears the name: its insert is of this name, or the delete of this name hit it
abbrev pub Bears : CellData → NameData → Type 0
Bears d n = (d.name ≡ n) ⊎ IsDeletedBy d n

-- at the place stands a cell that bears the name
pub record IsBearer (cs : List CellData) (n : NameData) (p : ℕ) : Type 0 where
  pub cell : CellData
  pub there : slice_get cs p ≡ Some cell
  pub bears : Bears cell n

-- the cell at the place bears the name that some operation of the history touches, from the `from`-th on, counted from 0
pub record IsTouched (h : List OpData) (from : ℕ) (cs : List CellData) (p : ℕ) : Type 0 where
  pub op : OpData
  pub late : Contains (drop from h) op
  pub bearer : IsBearer cs (name_touched op) p

-- the places of the cells that the operations of a history touched from the `from`-th on, rising
pub record ArePlacesTouched (h : List OpData) (from : ℕ) (cs : List CellData) (ps : List ℕ) : Type 0 where
  pub rising : IsStrictlyIncreasing ps
  pub within : All (λ p. p < length cs) ps
  pub exact : (p : ℕ) → Contains ps p ↔ IsTouched h from cs p
