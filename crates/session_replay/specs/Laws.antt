-- The laws of sessions.
use Rattle.std.specs.Prelude.{◌≡◌, ◌≢◌, ℕ, ◌<◌, Bool, List, Contains, Ok, length}
use Rattle.op_name.specs.declared.name.TheConstants.{SITES}
use Rattle.op_name.specs.declared.member.Member.{Member}
use Rattle.context_diff.specs.Operations.{OpData, IsWellFormed}
use Rattle.context_diff.specs.Histories.{IsNext}
use Rattle.site_answers.specs.declared.verdict.Verdict.TheVariants.{Waits}
use Rattle.script_text.specs.declared.reading.line.Line.{Line}
use Rattle.script_text.specs.declared.report.event.Event.TheVariants.{Free}
use Rattle.script_text.specs.Verdicts.{verdict_line_text}
use Rattle.session_replay.specs.Steps.{Step, last_of, IsReached}
use Rattle.session_replay.specs.Sessions.{SessionData, site_at, made, given}
use Rattle.session_replay.specs.LineSteps.{line_steps, AreValues}
use Rattle.script_text.specs.Report.{Report}
use Rattle.session_replay.specs.Scripts.{script_report}
use Rattle.session_replay.specs.Soundness.{IsSound, AreSettled}
use Rattle.session_replay.specs.Transcripts.{IsTranscript}

-- each step of a line leaves a sound session
abbrev pub SessionsStaySound : Type 0
SessionsStaySound =
    (d reached : SessionData) (line : Line) (es : List (Step SessionData))
    → IsSound d → AreValues line → line_steps line d ≡ Ok es → IsReached d es reached → IsSound reached

-- after a local operation with its releases, no operation is ready
abbrev pub LocalOperationsSettle : Type 0
LocalOperationsSettle =
    (d : SessionData) (i : ℕ) (o : OpData)
    → IsSound d → AreSettled d → i < length d.sites → IsNext (site_at d i).history o → AreSettled (last_of d (made i o d))

-- after a delivery with its releases, no operation is ready
abbrev pub DeliveriesSettle : Type 0
DeliveriesSettle =
    (d : SessionData) (many : Bool) (i : ℕ) (o : OpData)
    → IsSound d → AreSettled d → i < length d.sites → IsWellFormed o → AreSettled (last_of d (given many i o d))

-- this isn't the line of a release that says `waits`
abbrev pub IsNoWaitingRelease : List ℕ → Type 0
IsNoWaitingRelease written = (site : ℕ) (m missing : Member) → site < SITES → written ≢ verdict_line_text Free site m (Waits missing)

-- no step of a line writes one
abbrev pub NoReleaseSaysWaits : Type 0
NoReleaseSaysWaits =
    (d : SessionData) (line : Line) (es : List (Step SessionData)) (e : Step SessionData)
    → IsSound d → AreValues line → line_steps line d ≡ Ok es → Contains es e → IsNoWaitingRelease e.written

-- the report of a script has a transcript
abbrev pub TranscriptsAreThere : Type 0
TranscriptsAreThere = (bytes : List ℕ) → IsTranscript bytes (script_report bytes)

-- and no other report has one
abbrev pub OneTranscript : Type 0
OneTranscript = (bytes : List ℕ) (r : Report) → IsTranscript bytes r → r ≡ script_report bytes
