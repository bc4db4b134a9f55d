-- Edits, and what an edit makes of a site: its operations, each with the releases after it.
use Rattle.std.specs.Prelude.{ℕ, List, [], ◌∷◌, Result, Ok, Err, chars}
use Rattle.op_name.specs.NameData.{NameData}
use Rattle.context_diff.specs.Operations.{OpData}
use Rattle.cot_site.specs.States.{State}
use Rattle.site_answers.specs.declared.local.Local.{Local}
use Rattle.participant.specs.declared.edits.Edit.{Edit}
use Rattle.participant.specs.declared.edits.Edit.TheVariants as one
use Rattle.participant.specs.Reached.{from, with_one, all_settled}
use Rattle.participant.specs.Edits.{made_by}
use Rattle.participant.specs.Runs.{inserts, runs}
use Rattle.log_replies.specs.declared.edit.Edit as declared
use Rattle.log_replies.specs.declared.edit.Edit.TheVariants as edit

-- an edit at a site: the characters of a text, a text in pieces or a line feed is inserted after so many shown characters, a shown
-- character is deleted, an insert or delete is undone or redone
pub data EditData : Type 0 where
  Ins : ℕ → List ℕ → EditData
  Run : ℕ → List ℕ → EditData
  Nl : ℕ → EditData
  Del : ℕ → EditData
  Undo : NameData → EditData
  Redo : NameData → EditData

-- what contracts see of an edit, whose text is its bytes
abbrev pub edit_data : declared.Edit → EditData
edit_data (edit.Ins place text) = Ins place text.now
edit_data (edit.Run place text) = Run place text.now
edit_data (edit.Nl place) = Nl place
edit_data (edit.Del place) = Del place
edit_data (edit.Undo name) = Undo name
edit_data (edit.Redo name) = Redo name

-- what it consists of: edits of one operation each, one after the other. The characters of a text are inserted after v shown
-- ones, v + 1 and so on; its pieces, each by one operation, after v, v + LETTERS and so on
abbrev pub edits_of : EditData → List Edit
edits_of (Ins v text) = inserts v (chars text)
edits_of (Run v text) = runs v (chars text)
edits_of (Nl v) = one.Insert v (10 ∷ []) ∷ []
edits_of (Del v) = one.Delete v ∷ []
edits_of (Undo t) = one.Undo t ∷ []
edits_of (Redo t) = one.Redo t ∷ []

-- the state after an operation of the site's own and all releases that follow, or why there is no such operation. A release that
-- refuses its operation refuses no edit
abbrev pub made : State → Result OpData Local → Result State Local
made s (Ok o) = Ok ((all_settled (with_one (from s) o)).state)
made s (Err why) = Err why

-- what comes next, unless there was a refusal
abbrev pub then_next : (State → Result State Local) → Result State Local → Result State Local
then_next next (Ok s) = next s
then_next next (Err why) = Err why

-- the state after these edits, one after the other; where one is refused, all of them are, for that reason
unfoldable pub all_made : List Edit → State → Result State Local
all_made [] s = Ok s
all_made (e ∷ es) s = then_next (all_made es) (made s (made_by e s))

-- the state after an edit; where an operation is refused, the whole edit is, for that reason
abbrev pub edited : State → EditData → Result State Local
edited s e = all_made (edits_of e) s
