-- What a site sees of its text, as its history says it and as forms beside its state show it.
use Rattle.std.specs.Prelude.{ℕ, List, [], map}
use Rattle.op_name.specs.Lists.{places_from}
use Rattle.context_diff.specs.Operations.{OpData}
use Rattle.context_diff.specs.Histories.{IsValid}
use Rattle.context_diff.specs.Replays.{replay_of, is_shown, character_in, characters_of}
use Rattle.ttf_form.specs.declared.form.Form.{Form}
use Rattle.ttf_form.specs.Cells.{CellData, cells_of, applied}
use Rattle.transform_rec.specs.Executing.{executed}
use Rattle.visible_view.specs.View.{shown_cells, shown_places}
use Rattle.cot_site.specs.States.{State}
use Rattle.cot_site.specs.Sites.{AreExecuted}

-- where the shown cells of a history stand among all cells of its replay
abbrev pub shown_places_of : List OpData → List ℕ
shown_places_of h = places_from (is_shown h) 0 (replay_of h)

-- View: where the shown characters stand among all cells of a text, and which they are
pub record View : Type 0 where
  pub places : List ℕ
  pub characters : List ℕ

-- the view that the state's history gives: its shown cells among those of its fixed replay
abbrev pub history_view : State → View
history_view s = record { places = shown_places_of s.history; characters = characters_of s.history }

-- the view that cells give of a history: those that their marks show, each with the character that its insert has in the history
abbrev pub cells_view : List OpData → List CellData → View
cells_view h cs = record { places = shown_places cs; characters = map (character_in h) (cells_of (shown_cells cs)) }

-- the view that the forms beside the state give: that of the cells that they make, executed one after the other from no cell. Forms
-- have no characters: a shown cell has the one at its offset in the text of the history's insert by whose name it stands
abbrev pub forms_view : (State → List Form) → State → View
forms_view forms s = cells_view s.history (executed applied [] (forms s))

-- beside each state stands a list of forms: beside a valid history one derived form of each operation, at the members before it
abbrev pub AreFormLists : (State → List Form) → Type 0
AreFormLists forms = (s : State) → IsValid s.history → AreExecuted s.history (forms s)
