-- The cells that deletes hit, as they are found: by the deleters of each cell of a site.
use Rattle.std.specs.Prelude.{◌≡◌, ℕ, Bool, true, List, None, Some, Contains, option_map}
use Rattle.std.specs.List.{list_any}
use Rattle.std.specs.Map.{lookup}
use Rattle.op_name.specs.NameData.{NameData, name_eq}
use Rattle.context_vector.specs.Contexts.{ContextData}
use Rattle.context_diff.specs.Operations.{OpData, deleting}
use Rattle.context_diff.specs.Replays.{Cell}
use Rattle.ttf_form.specs.Cells.{CellData, cell_key}
use Rattle.ttf_form.specs.Families.{IsIn}
use Rattle.tombstone_text.specs.declared.cell.CellId.{CellId}
use Rattle.log_listings.specs.Originals.{cell_hit}

-- whether the delete of this name is among these deleters
abbrev pub has_deleter : List (NameData × ℕ) → NameData → Bool
has_deleter deleters n = list_any (λ e. name_eq e.0 n) deleters

-- the cell of a name and an offset
abbrev pub cell_of : CellId → Cell
cell_of id = (id.name, id.offset)

-- the cell that is kept of a delete has it among its deleters, and where none is kept no cell has
pub record AreNoted (cells : List CellData) (noted : List (NameData × CellId)) : Type 0 where
  pub found : (n : NameData) (id : CellId) → lookup (name_eq n) noted ≡ Some id
      → (d : CellData) × IsIn d cells × (has_deleter d.deleters n ≡ true) × (cell_of id ≡ cell_key d)
  pub none : (n : NameData) → lookup (name_eq n) noted ≡ None → (d : CellData) → IsIn d cells → has_deleter d.deleters n ≡ true → ⊥

-- the cell that is kept of each delete of the history is the one that it hits
abbrev pub AreHits : List OpData → List (NameData × CellId) → Type 0
AreHits h noted =
    (n : NameData) (p : ℕ) (k : ContextData) → Contains h (deleting n p k) → option_map cell_of (lookup (name_eq n) noted) ≡ cell_hit h p k
