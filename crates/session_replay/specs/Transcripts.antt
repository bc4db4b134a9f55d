-- Transcripts: a script as it was done, line by line, with what happened at its sites and what was written for it.
use Rattle.std.specs.Prelude.{◌≡◌, ◌≢◌, ℕ, ◌+◌, ◌<◌, Bool, true, false, List, [], ◌∷◌, ◌++◌, Contains, Ok, Err, length, map}
use Rattle.std.specs.List.{concat}
use Rattle.op_name.specs.declared.member.Member.{Member}
use Rattle.context_diff.specs.Operations.{OpData, member_of, context_of}
use Rattle.context_diff.specs.Histories.{LacksFirst}
use Rattle.context_diff.specs.Replays.{characters_of, text_of}
use Rattle.ttf_form.specs.declared.form.Form.{Form}
use Rattle.site_answers.specs.declared.verdict.Verdict.{Verdict}
use Rattle.site_answers.specs.declared.verdict.Verdict.TheVariants.{Waits}
use Rattle.cot_site.specs.States.{State, judged}
use Rattle.cot_site.specs.Views.{forms_view, AreFormLists}
use Rattle.script_text.specs.declared.report.event.Event.TheVariants.{Give}
use Rattle.script_text.specs.declared.reading.line.Line.{Line}
use Rattle.script_text.specs.declared.reading.line.Line.TheVariants.{Show}
use Rattle.script_text.specs.declared.report.refusal.Refusal.{Refusal}
use Rattle.script_text.specs.Report.{Report, shown_text, refused_text}
use Rattle.script_text.specs.Verdicts.{verdict_line_text}
use Rattle.session_replay.specs.Steps.{Step, last_of, written_by}
use Rattle.session_replay.specs.Sessions.{SessionData, unstarted, site_at, given}
use Rattle.session_replay.specs.LineSteps.{line_steps, line_steps_in}
use Rattle.session_replay.specs.Events.{Event, Making, Giving, Telling, Opening, all_steps, Moment, moments, after_moment}
use Rattle.session_replay.specs.Scripts.{Piece, pieces_of, line_read, piece_steps}
use Rattle.session_replay.specs.Soundness.{IsSound, AreSettled, WaitsFor}

-- ---- one event

-- a delivery that waits names the first member of the operation's context that the history lacks: first its line is written
pub record NamesLacking (many : Bool) (i : ℕ) (o : OpData) (d : SessionData) (missing : Member) : Type 0 where
  pub first : LacksFirst (site_at d i).history (context_of o) missing
  pub more : List ℕ
  pub written : written_by (given many i o d) ≡ verdict_line_text Give (site_at d i).number (member_of o) (Waits missing) ++ more

-- this is not the line of a delivery
abbrev pub IsNoDelivery : List ℕ → Type 0
IsNoDelivery written = (site : ℕ) (m : Member) (v : Verdict) → written ≢ verdict_line_text Give site m v

-- so does the event, if it is a delivery that waits; and no line of a delivery is only told
abbrev pub WaitsByName : Event → SessionData → Type 0
WaitsByName (Making i o) d = Unit {0}
WaitsByName (Giving many i o) d = (missing : Member) → judged (site_at d i) o ≡ Waits missing → NamesLacking many i o d missing
WaitsByName (Telling w) d = IsNoDelivery w
WaitsByName (Opening n) d = Unit {0}

-- once an event with its releases is done, no site has an operation that is ready: whatever waits lacks a named member
pub record Settles (m : Moment) : Type 0 where
  pub sound : IsSound (after_moment m)
  pub settled : AreSettled (after_moment m)
  pub waiting : (s : State) (o : OpData) → Contains (after_moment m).sites s → Contains s.waiting o → WaitsFor s.history o
  pub named : WaitsByName m.event m.before

-- ---- one line

-- a line that was done: its bytes, what it says, the session that it met, and what happened then
pub record Entry : Type 0 where
  pub piece : Piece
  pub line : Line
  pub before : SessionData
  pub events : List Event

abbrev pub steps_in : Entry → List (Step SessionData)
steps_in e = all_steps e.events e.before

-- what was written for it
abbrev pub written_in : Entry → List ℕ
written_in e = written_by (steps_in e)

-- the session that it left
abbrev pub after_entry : Entry → SessionData
after_entry e = last_of e.before (steps_in e)

-- the lines of the text of the definition, for the history that the site of this number has
pub record IsShown (d : SessionData) (i : ℕ) (written : List ℕ) : Type 0 where
  pub there : i < length d.sites
  pub text : let h = (site_at d i).history in written ≡ shown_text (length (characters_of h)) (text_of h)

-- the line was read and done as the definitions say; each of its events settles; `show` shows the text of the definition; and the
-- steps are the same where each site sees its text by a list of derived forms, whichever lists these are
pub record IsEntry (e : Entry) : Type 0 where
  pub read : line_read e.piece ≡ Ok e.line
  pub steps : line_steps e.line e.before ≡ Ok (steps_in e)
  pub settles : (m : Moment) → Contains (moments e.events e.before) m → Settles m
  pub shown : (i : ℕ) → e.line ≡ Show i → IsShown e.before i (written_in e)
  pub derived : (forms : State → List Form) → AreFormLists forms → line_steps_in (forms_view forms) e.line e.before ≡ Ok (steps_in e)

-- ---- one script

-- each entry meets the session that the one before it left, and the first one this session
abbrev pub AreConsecutive : SessionData → List Entry → Type 0
AreConsecutive d [] = Unit {0}
AreConsecutive d (e ∷ es) = (e.before ≡ d) × AreConsecutive (after_entry e) es

-- the session that the last of these entries left
abbrev pub after_entries : SessionData → List Entry → SessionData
after_entries d [] = d
after_entries d (e ∷ es) = after_entries (after_entry e) es

-- how a script ends in this session, with these of its lines left: none; or the first of them, of this number, is refused
abbrev pub IsEnd : ℕ → SessionData → List Piece → List ℕ → Bool → Type 0
IsEnd number d [] written refused = (written ≡ []) × (refused ≡ false)
IsEnd number d (p ∷ left) written refused =
    (why : Refusal) × (piece_steps p d ≡ Err why) × (written ≡ refused_text number why) × (refused ≡ true)

-- what was written for a script, and whether it was refused: its lines were done one after the other, from a session with no site
-- on; what is written is what is written for each, and then the refusal, if there is one
pub record IsTranscript (bytes : List ℕ) (r : Report) : Type 0 where
  pub entries : List Entry
  pub left : List Piece
  pub ending : List ℕ
  pub lines : pieces_of bytes ≡ map (λ e. e.piece) entries ++ left
  pub consecutive : AreConsecutive unstarted entries
  pub done : (e : Entry) → Contains entries e → IsEntry e
  pub end : IsEnd (1 + length entries) (after_entries unstarted entries) left ending r.refused
  pub written : r.written ≡ concat (map written_in entries) ++ ending
