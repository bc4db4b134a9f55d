-- Cells that are the fixed replay of a history, the text beside them, and what both show.
use Rattle.std.specs.Prelude.{◌≡◌, ◌↔◌, ℕ, true, List, [], map, filter, encode_utf8_all}
use Rattle.op_name.specs.NameData.{NameData}
use Rattle.context_vector.specs.Contexts.{ContextData}
use Rattle.context_diff.specs.Operations.{OpData, inserting, deleting, undoing}
use Rattle.context_diff.specs.Histories.{generation_in}
use Rattle.context_diff.specs.Replays.{Cell, replay_of, hits, is_shown, shown, character_in, characters_of, text_of}
use Rattle.ttf_form.specs.Cells.{CellData, IsRising, cell_key, cells_of, cell_shown, chars_where}
use Rattle.ttf_form.specs.Families.{IsIn}

-- a delete of this name hits the cell
pub record IsDeleter (h : List OpData) (c : Cell) (n : NameData) : Type 0 where
  pub place : ℕ
  pub context : ContextData
  pub there : IsIn (deleting n place context) h
  pub hit : hits h (deleting n place context) c ≡ true

-- the cells of the fixed replay in its order, each with the generation of its insert; the deleters of a cell are exactly the
-- deletes that hit it, each once and at its generation; so a cell is shown by its marks exactly if the history shows it. The
-- characters stand beside the cells (AreCharacters)
pub record IsReplayed (h : List OpData) (cs : List CellData) : Type 0 where
  pub cells : cells_of cs ≡ replay_of h
  pub generations : (d : CellData) → IsIn d cs → d.generation ≡ generation_in h d.name
  pub deleters : (d : CellData) → IsIn d cs → (n : NameData) (g : ℕ)
      → IsIn (n, g) d.deleters ↔ (IsDeleter h (cell_key d) n × (g ≡ generation_in h n))
  pub once : (d : CellData) → IsIn d cs → IsRising d.deleters
  pub shown : (d : CellData) → IsIn d cs → cell_shown d ≡ is_shown h (cell_key d)

-- the text beside the cells: each character is the one that the cell's insert has in the history at the cell's offset
abbrev pub AreCharacters : List OpData → List CellData → List ℕ → Type 0
AreCharacters h cs ts = ts ≡ map (character_in h) (cells_of cs)

-- the characters that an operation brings: those of an insert; others bring none
abbrev pub letters_of : OpData → List ℕ
letters_of (inserting n p text c) = text
letters_of (deleting n p c) = []
letters_of (undoing a t g c) = []

-- the shown ones of the cells are those of the history, with its characters; and so are those of the text beside the cells,
-- which is in UTF-8 the text of the history
pub record ShowsTheText (h : List OpData) (cs : List CellData) : Type 0 where
  pub cells : cells_of (filter cell_shown cs) ≡ shown h
  pub characters : map (character_in h) (cells_of (filter cell_shown cs)) ≡ characters_of h
  pub beside : (ts : List ℕ) → AreCharacters h cs ts → chars_where cell_shown cs ts ≡ characters_of h
  pub text : (ts : List ℕ) → AreCharacters h cs ts → encode_utf8_all (chars_where cell_shown cs ts) ≡ text_of h
