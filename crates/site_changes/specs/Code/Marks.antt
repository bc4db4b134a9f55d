-- Which cells of a site were shown at a set of members, and which are shown now.
use Rattle.std.specs.Prelude.{◌≡◌, ℕ, Bool, List, [], ◌∷◌, ◌++◌, Some, Contains, not, ◌&&◌, length, map, slice_get}
use Rattle.std.specs.List.{list_any}
use Rattle.op_name.specs.NameData.{NameData}
use Rattle.op_name.specs.declared.member.Member.TheVariants.{Original}
use Rattle.op_name.specs.Members.{is_even}
use Rattle.context_vector.specs.Contexts.{ContextData, has, entry_of}
use Rattle.context_diff.specs.Replays.{Cell}
use Rattle.ttf_form.specs.Cells.{CellData, cell_key, cell_shown}
use Rattle.change_list.specs.declared.change.Change.{Change}
use Rattle.change_list.specs.Told.{Marked, after, told}

-- the original is in the set, and in force by the undos that the set has
abbrev pub is_in_force_at : ContextData → NameData → Bool
is_in_force_at c n = has c (Original n) && is_even (entry_of c n)

-- the cell was shown at the set: its insert is in force there, and none of its deletes is
abbrev pub was_shown : ContextData → CellData → Bool
was_shown c d = is_in_force_at c d.name && not (list_any (λ e. is_in_force_at c e.0) d.deleters)

-- a cell, by its name and its offset, with whether it was shown, and whether it is
abbrev pub CellMark : Type 0
CellMark = Marked Cell

-- the cell with whether it was shown at the set, and whether it is shown now
abbrev pub mark_of : ContextData → CellData → CellMark
mark_of c d = record { it = cell_key d; was = was_shown c d; is = cell_shown d }

-- the cells of a list, each with that
abbrev pub marks_of : ContextData → List CellData → List CellMark
marks_of c ds = map (mark_of c) ds

-- where the old changes are told of any cells of which so many are shown, the new ones are told of one cell more
abbrev pub TellsOneMore : ℕ → CellMark → List Change → List Change → Type 0
TellsOneMore place m old new = (ms : List CellMark) → old ≡ told ms → length (after ms) ≡ place → new ≡ told (ms ++ m ∷ [])

-- each cell that stands at none of the places was shown exactly if it is
abbrev pub IsQuietBut : ContextData → List CellData → List ℕ → Type 0
IsQuietBut c ds ps =
    (p : ℕ) (d : CellData) → slice_get ds p ≡ Some d → ¬ Contains ps p → was_shown c d ≡ cell_shown d
