-- How far a playback is: what the first operations made, the text of that, and what was written.
use Rattle.std.specs.Prelude.{◌≡◌, ℕ, ◌+◌, Bool, IsTrue, Option, List, [], ◌∷◌, ◌++◌, length, take, drop, slice_get, encode_utf8}
use Rattle.std.specs.Option.{option_map_or}
use Rattle.std.specs.Io.KnownBytes.{Appends}
use Rattle.op_name.specs.NameData.{NameData}
use Rattle.context_diff.specs.Operations.{OpData}
use Rattle.ttf_form.specs.declared.cover.Cover.{Cover}
use Rattle.ttf_form.specs.declared.form.Form.{Form}
use Rattle.ttf_form.specs.Names.{LacksName}
use Rattle.ttf_form.specs.Cells.{CellData, cells_of, applied, change_at, marked, marked_in}
use Rattle.transform_rec.specs.Executing.{executed}
use Rattle.fixed_replay.specs.Replayed.{AreCharacters}
use Rattle.visible_view.specs.View.{shown_cells, shown_text}

-- no two cells are of one insert
abbrev pub AreApart : List (NameData × ℕ) → Type 0
AreApart [] = Unit {0}
AreApart (c ∷ cs) = LacksName cs c.0 × AreApart cs

-- the cover marks the cell at its place and no other
abbrev pub MarksOne : Cover → List CellData → Type 0
MarksOne c cs = marked_in c.place c.mark cs ≡ change_at c.place (marked c.mark) cs

-- the cells that the first forms give, so many of them
abbrev pub cells_after : List Form → ℕ → List CellData
cells_after fs i = executed applied [] (take i fs)

-- the first i operations of the history were executed in the first i forms: these are their cells, with the characters beside them
pub record IsAfter (h : List OpData) (fs : List Form) (i : ℕ) (cs : List CellData) (ts : List ℕ) : Type 0 where
  pub given : cs ≡ cells_after fs i
  pub beside : AreCharacters (take i h) cs ts

-- and this is the text of these; where `one` is true, no two of these cells are of one insert
pub record IsPlayed (h : List OpData) (fs : List Form) (i : ℕ) (cs : List CellData) (ts text : List ℕ) (one : Bool) : Type 0 where
  pub after : IsAfter h fs i cs ts
  pub shown : text ≡ shown_text cs ts
  pub apart : IsTrue one → AreApart (cells_of cs)

-- known bytes grew by a front of `all`, of which `rest` is left to be written
pub record HasWritten (old now : Option (List ℕ)) (all rest : List ℕ) : Type 0 where
  pub front : List ℕ
  pub parts : all ≡ front ++ rest
  pub written : Appends old now front

-- how many cells beside the one at the place are shown
abbrev pub shown_beside : List CellData → ℕ → ℕ
shown_beside cs p = length (shown_cells (take p cs)) + length (shown_cells (drop (p + 1) cs))

-- the text of the cells before a place, and of those behind the cell there, with the characters beside them
abbrev pub text_front : List CellData → List ℕ → ℕ → List ℕ
text_front cs ts p = shown_text (take p cs) (take p ts)

abbrev pub text_rest : List CellData → List ℕ → ℕ → List ℕ
text_rest cs ts p = shown_text (drop (p + 1) cs) (drop (p + 1) ts)

-- the text without the character of the cell at a place, and the text with it
abbrev pub text_without : List CellData → List ℕ → ℕ → List ℕ
text_without cs ts p = text_front cs ts p ++ text_rest cs ts p

abbrev pub text_with : List CellData → List ℕ → ℕ → List ℕ
text_with cs ts p = text_front cs ts p ++ (option_map_or encode_utf8 (slice_get ts p) [] ++ text_rest cs ts p)
