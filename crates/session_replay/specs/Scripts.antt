-- Scripts: their lines, and the report of a script, by the view that a site in each state has of its text.
use Rattle.std.specs.Prelude.{◌≡◌, ◌⊎◌, ℕ, ◌+◌, true, false, List, [], ◌∷◌, ◌++◌, ◌==◌, length, map, take, nat_le, Result, Ok, Err, Option, Some, None, if◌then◌else◌}
use Rattle.std.specs.List.{slice_split}
use Rattle.std.specs.Str.{is_utf8}
use Rattle.cot_site.specs.States.{State}
use Rattle.cot_site.specs.Views.{View, history_view}
use Rattle.script_text.specs.declared.reading.line.Line.{Line}
use Rattle.script_text.specs.declared.report.refusal.Refusal.{Refusal}
use Rattle.script_text.specs.declared.report.refusal.Refusal.TheVariants as refusal
use Rattle.script_text.specs.declared.reading.parse.TheConstants.{LONGEST}
use Rattle.script_text.specs.Answers.{line_in}
use Rattle.script_text.specs.Report.{Report, refused_text}
use Rattle.script_text.specs.declared.reading.stream.TheConstants.{MAX_SCRIPT}
use Rattle.session_replay.specs.Steps.{Step, last_of, written_by}
use Rattle.session_replay.specs.Sessions.{SessionData, unstarted}
use Rattle.session_replay.specs.LineSteps.{line_steps_in}

-- the bytes of a line without its line feed; or a line that holds, or would begin with, the byte past the limit
pub data Piece : Type 0 where
  Whole : List ℕ → Piece
  Past : Piece

-- the lines of a script, without their line feeds; after the last line feed stands an empty line, which does nothing
abbrev pub lines_of : List ℕ → List (List ℕ)
lines_of bytes = slice_split (λ b. b == 10) bytes

-- the bytes of lines, each of which a line feed ends
abbrev pub AreWholeLines : List ℕ → Type 0
AreWholeLines bytes = (bytes ≡ []) ⊎ ((front : List ℕ) × (bytes ≡ front ++ 10 ∷ []))

-- these lines, of which the last is past the limit
unfoldable pub cut_off : List (List ℕ) → List Piece
cut_off [] = Past ∷ []
cut_off (line ∷ []) = Past ∷ []
cut_off (line ∷ next ∷ lines) = Whole line ∷ cut_off (next ∷ lines)

abbrev pub pieces_of : List ℕ → List Piece
pieces_of bytes = if nat_le (length bytes) MAX_SCRIPT then map Whole (lines_of bytes) else cut_off (lines_of (take MAX_SCRIPT bytes))

-- what a line says, or the first cause why it can't be read
abbrev pub read_form : Option Line → Result Line Refusal
read_form None = Err refusal.Form
read_form (Some line) = Ok line

abbrev pub line_read : Piece → Result Line Refusal
line_read Past = Err refusal.Limit
line_read (Whole bytes) =
    if nat_le (length bytes) LONGEST then (if is_utf8 bytes then read_form (line_in bytes) else Err refusal.Utf8)
    else Err refusal.Long

-- the steps of what was read, or the first cause why there are none
abbrev pub steps_of_read_in : (State → View) → Result Line Refusal → SessionData → Result (List (Step SessionData)) Refusal
steps_of_read_in view (Err why) d = Err why
steps_of_read_in view (Ok line) d = line_steps_in view line d

-- the same where each site sees what its history shows
abbrev pub steps_of_read : Result Line Refusal → SessionData → Result (List (Step SessionData)) Refusal
steps_of_read r d = steps_of_read_in history_view r d

-- the steps of a line of a script, or the first cause why it is refused
abbrev pub piece_steps_in : (State → View) → Piece → SessionData → Result (List (Step SessionData)) Refusal
piece_steps_in view p d = steps_of_read_in view (line_read p) d

-- the same where each site sees what its history shows
abbrev pub piece_steps : Piece → SessionData → Result (List (Step SessionData)) Refusal
piece_steps p d = piece_steps_in history_view p d

-- bytes that stand before a report
abbrev pub prepended : List ℕ → Report → Report
prepended written rest = record { written = written ++ rest.written; refused = rest.refused }

-- what a line writes, and after it the report of what follows; a refused line ends the script
abbrev pub report_on : (SessionData → Report) → ℕ → Result (List (Step SessionData)) Refusal → SessionData → Report
report_on next number (Err why) d = record { written = refused_text number why; refused = true }
report_on next number (Ok es) d = prepended (written_by es) (next (last_of d es))

-- the report of these lines, of which the first has this number
unfoldable pub report_from_in : (State → View) → ℕ → List Piece → SessionData → Report
report_from_in view number [] d = record { written = []; refused = false }
report_from_in view number (p ∷ pieces) d = report_on (report_from_in view (number + 1) pieces) number (piece_steps_in view p d) d

-- the same where each site sees what its history shows
abbrev pub report_from : ℕ → List Piece → SessionData → Report
report_from number pieces d = report_from_in history_view number pieces d

-- the report of a script
abbrev pub script_report_in : (State → View) → List ℕ → Report
script_report_in view bytes = report_from_in view 1 (pieces_of bytes) unstarted

-- the same where each site sees what its history shows
abbrev pub script_report : List ℕ → Report
script_report bytes = script_report_in history_view bytes
