-- Words that only the contracts of private functions use: the characters that are shown.
use Rattle.std.specs.Prelude.{ℕ, List}
use Rattle.ttf_form.specs.Cells.{cell_shown, chars_where}
use Rattle.tombstone_text.specs.Cells.{CellsData}

-- the characters of the shown cells
abbrev pub characters_in : CellsData → List ℕ
characters_in t = chars_where cell_shown t.cells t.text
