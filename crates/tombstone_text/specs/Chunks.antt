-- Cells in chunks, and the flags that tell which of them are shown.
use Rattle.std.specs.Prelude.{ℕ, List, length, filter, if◌then◌else◌}
use Rattle.std.specs.List.{flat_map}
use Rattle.ttf_form.specs.Cells.{CellData, cell_shown}

-- 1 for a shown cell, 0 for a hidden one
abbrev pub flag_of : CellData → ℕ
flag_of c = if cell_shown c then 1 else 0

-- how many of the cells are shown
abbrev pub shown_in : List CellData → ℕ
shown_in cs = length (filter cell_shown cs)

-- the cells of all chunks, one after the other
abbrev pub flat : List (List CellData) → List CellData
flat chunks = flat_map (λ c. c) chunks

-- the characters of all chunks, one after the other
abbrev pub joined : List (List ℕ) → List ℕ
joined texts = flat_map (λ t. t) texts
