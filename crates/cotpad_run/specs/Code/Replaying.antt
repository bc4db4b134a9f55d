-- What `replay` has read and written so far.
use Rattle.std.specs.Prelude.{◌≡◌, ◌≤◌, ◌+◌, ◌++◌, ℕ, List, Option, length}
use Rattle.std.specs.Io.KnownBytes.{Appends, Consumes}
use Rattle.outside_io.specs.declared.reading.TheConstants.{MAX_INPUT}
use Rattle.session_replay.specs.ReaderData.{ReaderData}
use Rattle.session_replay.specs.Readers.{Keeps, Awaits}
use Rattle.log_replies.specs.Outside.{Outside}
use Rattle.cotpad_run.specs.Replaying.{IsReportedTillRead}

-- a front of `piece`, all but `rest`, was written
pub record IsPassed (held now : Option (List ℕ)) (piece rest : List ℕ) : Type 0 where
  pub front : List ℕ
  pub parts : piece ≡ front ++ rest
  pub sent : Appends held now front

-- a reader that keeps what was done of some bytes, of which `out` was reported last
pub record KeepsAfter (r : ReaderData) (out : List ℕ) : Type 0 where
  pub all : List ℕ
  pub before : List ℕ
  pub keeps : Keeps r all (before ++ out)

-- no call failed. So many bytes were taken of the source and fed to the reader; of what the lines done report all was written
-- but `out`, and before the last read all of what was to be written then
pub record IsReading (old now : Outside) (r : ReaderData) (fed : ℕ) (out : List ℕ) : Type 0 where
  pub all : List ℕ
  pub written : List ℕ
  pub keeps : Keeps r all (written ++ out)
  pub count : length all ≡ fed
  pub few : fed ≤ MAX_INPUT + 1
  pub taken : Consumes old.left now.left all
  pub sent : Appends old.held now.held written
  pub till_read : IsReportedTillRead old now
  pub read_faults : now.read_faults ≡ old.read_faults
  pub write_faults : now.write_faults ≡ old.write_faults

-- the same where all whole lines are done, and all that they report was written
pub record IsWaiting (old now : Outside) (r : ReaderData) (fed : ℕ) : Type 0 where
  pub all : List ℕ
  pub written : List ℕ
  pub awaits : Awaits r all written
  pub count : length all ≡ fed
  pub few : fed ≤ MAX_INPUT
  pub taken : Consumes old.left now.left all
  pub sent : Appends old.held now.held written
  pub read_faults : now.read_faults ≡ old.read_faults
  pub write_faults : now.write_faults ≡ old.write_faults
