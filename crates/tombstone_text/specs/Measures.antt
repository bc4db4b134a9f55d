-- What shown characters weigh, as editors count positions: in bytes, in units, in lines.
use Rattle.std.specs.Prelude.{ℕ, ◌+◌, ◌==◌, nat_lt, if◌then◌else◌, List, [], ◌∷◌}
use Rattle.std.specs.Char.{len_utf8}
use Rattle.ttf_form.specs.Cells.{CellData, cell_shown, chars_where}
use Rattle.tombstone_text.specs.declared.measure.Measure.{Measure}
use Rattle.tombstone_text.specs.declared.measure.Measure.TheVariants.{Bytes, Units, Lines}

-- a character by its code: its bytes in UTF-8 (RFC 3629), its units in UTF-16, of which one from U+10000 on has two (RFC 2781), and 1
-- for a line feed, 0 for any other
abbrev pub weight : Measure → ℕ → ℕ
weight Bytes c = len_utf8 c
weight Units c = if nat_lt c 0x1_0000 then 1 else 2
weight Lines c = if c == 10 then 1 else 0

-- all characters of a text
abbrev pub weight_of : Measure → List ℕ → ℕ
weight_of m [] = 0
weight_of m (c ∷ cs) = weight m c + weight_of m cs

-- the characters of the shown cells, of a text beside the cells
abbrev pub weight_shown : Measure → List CellData → List ℕ → ℕ
weight_shown m cs ts = weight_of m (chars_where cell_shown cs ts)

-- the shown characters of each chunk
abbrev pub chunk_weights : Measure → List (List CellData) → List (List ℕ) → List ℕ
chunk_weights m [] texts = []
chunk_weights m (c ∷ cs) [] = []
chunk_weights m (c ∷ cs) (t ∷ ts) = weight_shown m c t ∷ chunk_weights m cs ts
