-- Reading a script that comes in pieces: what a reader knows of the bytes fed, and of the report written for them.
use Rattle.std.specs.Prelude.{◌≡◌, ◌≢◌, ℕ, ◌+◌, ◌-◌, ◌≤◌, false, List, [], ◌∷◌, ◌++◌, None, Result, Ok, Err, length, map, take, nat_le, if◌then◌else◌}
use Rattle.std.specs.List.{All}
use Rattle.script_text.specs.LeftLines.{LeftLine, InputData}
use Rattle.script_text.specs.Streams.{fed_with, IsNext, IsPastLimit}
use Rattle.script_text.specs.declared.report.refusal.Refusal.{Refusal}
use Rattle.script_text.specs.declared.reading.stream.TheConstants.{MAX_SCRIPT}
use Rattle.session_replay.specs.Steps.{Step}
use Rattle.session_replay.specs.Sessions.{SessionData}
use Rattle.session_replay.specs.Scripts.{Piece, Whole, Past, lines_of, AreWholeLines, cut_off, piece_steps, prepended, report_from, script_report}
use Rattle.session_replay.specs.ReaderData.{ReaderData}

-- the lines of these bytes, where so many others stand before them in the script
abbrev pub pieces_after : ℕ → List ℕ → List Piece
pieces_after n bytes =
    if nat_le (n + length bytes) MAX_SCRIPT then map Whole (lines_of bytes) else cut_off (lines_of (take (MAX_SCRIPT - n) bytes))

-- an input of which nothing is left, and so many bytes were fed
abbrev pub nothing_left : ℕ → InputData
nothing_left fed = record { lines = []; fed = fed; over = false; refusal = None }

-- of these bytes, all that were fed, some lines were done, and the others are left; what was written is the report of the lines
-- done, and however the script goes on after them, the reader's session reports the rest of it
pub record Keeps (r : ReaderData) (all written : List ℕ) : Type 0 where
  pub done : List ℕ
  pub left : List ℕ
  pub parts : all ≡ done ++ left
  pub whole : AreWholeLines done
  pub within : length done ≤ MAX_SCRIPT
  pub input : r.input ≡ fed_with (nothing_left (length done)) left
  pub few : r.number ≤ 1 + length done
  pub goes_on : (more : List ℕ) → script_report (done ++ more)
      ≡ prepended written (report_from r.number (pieces_after (length done) more) r.session)

-- a reader that keeps what was done of some bytes
pub record KeepsSome (r : ReaderData) : Type 0 where
  pub all : List ℕ
  pub written : List ℕ
  pub keeps : Keeps r all written

-- all whole lines are done: what is left has no line feed, and the script is within its limit so far
pub record Awaits (r : ReaderData) (all written : List ℕ) : Type 0 where
  pub keeps : Keeps r all written
  pub no_feed : All (λ b. b ≢ 10) keeps.left
  pub within : length all ≤ MAX_SCRIPT

-- a reader that has done all whole lines of some bytes
pub record AwaitsSome (r : ReaderData) : Type 0 where
  pub all : List ℕ
  pub written : List ℕ
  pub awaits : Awaits r all written

-- the line has a step, or is refused; a comment has no step
abbrev pub DoesSomething : Result (List (Step SessionData)) Refusal → Type 0
DoesSomething (Ok []) = ⊥
DoesSomething (Ok (e ∷ es)) = Unit {0}
DoesSomething (Err why) = Unit {0}

-- the line is next in an input: it is there whole, with these bytes as far as they are seen, or the byte past the limit is in it
abbrev pub IsNextLine : InputData → Piece → Type 0
IsNextLine i (Whole bytes) = (l : LeftLine) × (rest : List LeftLine) × IsNext i l rest × (l.bytes ≡ bytes)
IsNextLine i Past = IsPastLimit i

-- the next line has a step in this session, or is refused
pub record NextDoesSomething (i : InputData) (d : SessionData) : Type 0 where
  pub piece : Piece
  pub next : IsNextLine i piece
  pub something : DoesSomething (piece_steps piece d)
