-- What the parts of a session's calls do and answer.
use Rattle.std.specs.Prelude.{◌≡◌, ℕ, Bool, true, List, [], ◌∷◌, ◌++◌, Option, Some, None, Result, Ok, Err, length, ◌+◌, ◌<◌, ◌≤◌}
use Rattle.context_diff.specs.declared.op.TheConstants.{PLACES}
use Rattle.context_diff.specs.Operations.{OpData, IsLetters}
use Rattle.context_diff.specs.Histories.{IsNext}
use Rattle.cot_site.specs.States.{State, with_last}
use Rattle.site_answers.specs.declared.release.Release.{Release}
use Rattle.participant.specs.declared.edits.Edit.{Edit}
use Rattle.participant.specs.declared.edits.Edit.TheVariants.{Insert, Delete, Undo, Redo}
use Rattle.participant.specs.Edits.{made_by}
use Rattle.script_text.specs.declared.report.event.Event.TheVariants.{Free}
use Rattle.script_text.specs.Verdicts.{verdict_line_text}
use Rattle.script_text.specs.declared.report.refusal.Refusal.{Refusal}
use Rattle.wire_codec.specs.declared.fault.Refused.{Refused}
use Rattle.session_replay.specs.declared.session.StepBad.{StepBad}
use Rattle.session_replay.specs.declared.session.StepBad.TheVariants.{NoSites, Twice, NoSite, NoMessage, Memory}
use Rattle.session_replay.specs.Steps.{Step, last_of, written_by, IsReached}
use Rattle.session_replay.specs.Answers.{refusal_by}
use Rattle.session_replay.specs.Sessions.{SessionData, making}

-- bytes after those that were there
pub record IsFront (old new : List ℕ) : Type 0 where
  pub more : List ℕ
  pub parts : new ≡ old ++ more

-- an answer tells how far steps came: all are done and written; or, out of memory, the first few are done, and what was
-- written before is there
abbrev pub AreDone : {T E S : Type 0} → Result T E → List (Step S) → S → S → List ℕ → List ℕ → Type 0
AreDone (Ok t) es s now old new = (now ≡ last_of s es) × (new ≡ old ++ written_by es)
AreDone (Err e) es s now old new = IsReached s es now × IsFront old new

-- what the type of a local command's text says: what is inserted, if it is an insert, is the text of one
abbrev pub HasLetters : Edit → Type 0
HasLetters (Insert v text) = IsLetters text
HasLetters (Delete v) = Unit {0}
HasLetters (Undo t) = Unit {0}
HasLetters (Redo t) = Unit {0}

-- the place behind what a local command inserts, if it is an insert, is one that an edit can name
abbrev pub HasPlaceBehind : Edit → Type 0
HasPlaceBehind (Insert v text) = v + length text ≤ PLACES
HasPlaceBehind (Delete v) = Unit {0}
HasPlaceBehind (Undo t) = Unit {0}
HasPlaceBehind (Redo t) = Unit {0}

-- the local command made its operation, which comes next in the history; it is the message of this number, and that is told, and the
-- releases after it are done and told, as far as the answer says
pub record IsTold {T E : Type 0} (edit : Edit) (number : ℕ) (told : Result T E) (s now : State) (old new : List ℕ) : Type 0 where
  pub op : OpData
  pub is : made_by edit s ≡ Ok op
  pub next : IsNext s.history op
  pub done : AreDone told (making number op s) (with_last s op) now old new

-- the answer of a line with these steps, or with this refusal: all steps are done and written; or, out of memory, the first
-- few are done; or the line is refused, and nothing changed; what was written before is there
abbrev pub IsLineDone : {T : Type 0} → Result (List (Step SessionData)) Refusal → Result T StepBad → SessionData → SessionData → List ℕ
    → List ℕ → Type 0
IsLineDone (Ok es) (Ok t) d now old new = (now ≡ last_of d es) × (new ≡ old ++ written_by es)
IsLineDone (Ok es) (Err why) d now old new = (why ≡ Memory) × IsReached d es now × IsFront old new
IsLineDone (Err why) (Ok t) d now old new = ⊥
IsLineDone (Err why) (Err cause) d now old new = (refusal_by cause ≡ Some why) × (now ≡ d) × (new ≡ old)

-- the line has no steps, but is refused for this cause
abbrev pub IsRefusedFor : Result (List (Step SessionData)) Refusal → StepBad → Type 0
IsRefusedFor (Ok es) bad = ⊥
IsRefusedFor (Err why) bad = refusal_by bad ≡ Some why

-- out of memory, as the cause of a line
abbrev pub as_step : {T E : Type 0} → Result T E → Result T StepBad
as_step (Ok t) = Ok t
as_step (Err e) = Err Memory

-- how many bytes the frame has that bytes begin with, if they begin with one
abbrev pub frame_bytes : Result (OpData × ℕ) Refused → Option ℕ
frame_bytes (Ok p) = Some p.1
frame_bytes (Err r) = None

-- whether a session counts as cut short after a line that wasn't done for this cause
abbrev pub cut_after : Bool → StepBad → Bool
cut_after cut NoSites = cut
cut_after cut Twice = cut
cut_after cut NoSite = cut
cut_after cut NoMessage = cut
cut_after cut Memory = true

-- the line of a release at the site of this number
abbrev pub free_line : ℕ → Release → List ℕ
free_line n r = verdict_line_text Free n r.member r.verdict

-- the lines of releases
abbrev pub free_lines : ℕ → List Release → List ℕ
free_lines n [] = []
free_lines n (r ∷ rs) = free_line n r ++ free_lines n rs

-- the place of the site of this number among the sites, or why it has none
abbrev pub IsPlace : SessionData → ℕ → Result ℕ StepBad → Type 0
IsPlace d i (Ok at) = (at ≡ i) × (i < length d.sites)
IsPlace d i (Err NoSites) = d.sites ≡ []
IsPlace d i (Err NoSite) = (length d.sites ≤ i) × (0 < length d.sites)
IsPlace d i (Err Twice) = ⊥
IsPlace d i (Err NoMessage) = ⊥
IsPlace d i (Err Memory) = ⊥
