-- What chunks show: the characters of one, and those from one on.
use Rattle.std.specs.Prelude.{ℕ, List, [], drop, slice_index_or}
use Rattle.ttf_form.specs.Cells.{cell_shown, chars_where}
use Rattle.tombstone_text.specs.Cells.{CellsData}
use Rattle.tombstone_text.specs.Chunks.{flat, joined}

-- the characters of the shown cells of a chunk
abbrev pub shown_at : CellsData → ℕ → List ℕ
shown_at t i = chars_where cell_shown (slice_index_or t.chunks i []) (slice_index_or t.texts i [])

-- those of the chunks from this one on
abbrev pub shown_from : CellsData → ℕ → List ℕ
shown_from t i = chars_where cell_shown (flat (drop i t.chunks)) (joined (drop i t.texts))
