-- What the calls of a session answer.
use Rattle.std.specs.Prelude.{◌≡◌, ℕ, List, [], ◌∷◌, Option, Some, None, Result, Ok, Err}
use Rattle.script_text.specs.declared.reading.line.LineBad.{LineBad}
use Rattle.script_text.specs.declared.reading.line.LineBad.TheVariants as reading
use Rattle.script_text.specs.declared.report.refusal.Refusal.{Refusal}
use Rattle.script_text.specs.declared.report.refusal.Refusal.TheVariants as refusal
use Rattle.session_replay.specs.declared.session.StepBad.{StepBad}
use Rattle.session_replay.specs.declared.session.StepBad.TheVariants.{NoSites, Twice, NoSite, NoMessage, Memory}
use Rattle.session_replay.specs.Steps.{Step, last_of, written_by, IsReached}
use Rattle.session_replay.specs.Sessions.{SessionData}

-- why a line is refused that isn't done for this cause; out of memory refuses none
abbrev pub refusal_by : StepBad → Option Refusal
refusal_by NoSites = Some refusal.NoSites
refusal_by Twice = Some refusal.Twice
refusal_by NoSite = Some refusal.NoSite
refusal_by NoMessage = Some refusal.NoMessage
refusal_by Memory = None

-- why a line is refused that isn't read for this cause; out of memory refuses none
abbrev pub unread_by : LineBad → Option Refusal
unread_by reading.Limit = Some refusal.Limit
unread_by reading.Long = Some refusal.Long
unread_by reading.Utf8 = Some refusal.Utf8
unread_by reading.Form = Some refusal.Form
unread_by reading.Memory = None

-- the answer of a line with these steps, or with this refusal: all steps are done; or, out of memory, the first few are
-- done; or the line is refused, and nothing changed
abbrev pub IsDone : {T : Type 0} → Result (List (Step SessionData)) Refusal → Result T StepBad → SessionData → SessionData → Type 0
IsDone (Ok es) (Ok t) old new = new ≡ last_of old es
IsDone (Ok es) (Err why) old new = (why ≡ Memory) × IsReached old es new
IsDone (Err why) (Ok t) old new = ⊥
IsDone (Err why) (Err cause) old new = (refusal_by cause ≡ Some why) × (new ≡ old)

-- the line is done in steps, one at least
abbrev pub HasStep : Result (List (Step SessionData)) Refusal → Type 0
HasStep (Ok []) = ⊥
HasStep (Ok (e ∷ es)) = Unit {0}
HasStep (Err why) = ⊥

-- what a line with these steps writes
abbrev pub lines_of_steps : Result (List (Step SessionData)) Refusal → List ℕ
lines_of_steps (Ok es) = written_by es
lines_of_steps (Err why) = []
