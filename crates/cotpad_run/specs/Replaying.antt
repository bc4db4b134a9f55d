-- What `replay` answers, and what it leaves in the source and in the sink: a script is reported while it is read.
use Rattle.std.specs.Prelude.{◌≡◌, ◌≢◌, ◌+◌, ◌≤◌, Bool, true, false, List, ℕ, ◌++◌, IfSome, length}
use Rattle.std.specs.List.{All}
use Rattle.std.specs.Io.KnownBytes.{Consumes, IsAtEnd}
use Rattle.outside_io.specs.Faults.{Rose}
use Rattle.outside_io.specs.Reading.{LosesFront}
use Rattle.outside_io.specs.declared.reading.TheConstants.{MAX_INPUT}
use Rattle.script_text.specs.Report.{Report}
use Rattle.session_replay.specs.Scripts.{AreWholeLines, script_report}
use Rattle.session_replay.specs.Transcripts.{IsTranscript}
use Rattle.session_replay.specs.Derivation.{IsDerivedReport}
use Rattle.log_replies.specs.declared.loaded.TheConstants.{PIECE}
use Rattle.log_replies.specs.declared.status.Status.{Status}
use Rattle.log_replies.specs.declared.status.Status.TheVariants.{Done, Refused, Words, ReadFault, WriteFault, Memory, LinkFault, PeerRefused}
use Rattle.log_replies.specs.Outside.{Outside, Grows}
use Rattle.log_replies.specs.Answers.{IsReplied, IsPartlyReplied}

-- the report of a script. Its transcript says what it is: the lines done one after the other, from no site on; `show` writes the
-- text of the definition for the history that the site has there; after each event with its releases no operation is ready, and
-- whatever waits, waits for a named member. No other report has a transcript. It is also the report, and the only one, of the session
-- that is read with derived forms in the place of replays
pub record IsScriptReport (bytes : List ℕ) (reply : Report) : Type 0 where
  pub report : reply ≡ script_report bytes
  pub transcript : IsTranscript bytes (script_report bytes)
  pub transcript_once : (r : Report) → IsTranscript bytes r → r ≡ script_report bytes
  pub derived : IsDerivedReport bytes (script_report bytes)
  pub derived_once : (r : Report) → IsDerivedReport bytes r → r ≡ script_report bytes

-- at most so many bytes of the source were taken: all that a script may have, and one more
abbrev pub IsTakenFrom : Outside → Outside → Type 0
IsTakenFrom old new = LosesFront (MAX_INPUT + 1) old.left new.left

-- the report of all that the source had left was written, and no call failed. A refused script may not be read to its end
pub record IsReport (refused : Bool) (old new : Outside) : Type 0 where
  pub reply : IfSome old.left (IsReplied IsScriptReport refused old.held new.held)
  pub kept : Grows old.held new.held
  pub lost : IsTakenFrom old new
  pub read_faults : new.read_faults ≡ old.read_faults
  pub write_faults : new.write_faults ≡ old.write_faults

-- a front of the report of all that the source had left was written
pub record IsFrontOfReport (old new : Outside) : Type 0 where
  pub front : IfSome old.left (IsPartlyReplied IsScriptReport old.held new.held)
  pub kept : Grows old.held new.held
  pub lost : IsTakenFrom old new

-- these bytes were taken: whole lines, and then what no line feed ended yet. The report of the whole lines was written, and
-- none of them is refused
pub record IsReportSoFar (old new : Outside) : Type 0 where
  pub whole : List ℕ
  pub tail : List ℕ
  pub taken : Consumes old.left new.left (whole ++ tail)
  pub lines : AreWholeLines whole
  pub no_line : All (λ b. b ≢ 10) tail
  pub reply : IsReplied IsScriptReport false old.held new.held whole

-- what the lines report that end before the last PIECE bytes taken, or fewer, was written before these bytes were taken; and nothing is
-- taken back of what was written
pub record IsReportedTillRead (old new : Outside) : Type 0 where
  pub till : Outside
  pub so_far : IsReportSoFar old till
  pub piece : List ℕ
  pub short : length piece ≤ PIECE
  pub read : Consumes till.left new.left piece
  pub kept : Grows till.held new.held

-- a read failed: the lines that ended before it are reported, whether before or after the failed read
pub record IsUnreadReport (old new : Outside) : Type 0 where
  pub fault : Rose old.read_faults new.read_faults
  pub so_far : IsReportSoFar old new
  pub front : IsFrontOfReport old new
  pub write_faults : new.write_faults ≡ old.write_faults

-- a write failed: a front of the report was written, with that of all lines that end before the last piece
pub record IsUnwrittenReport (old new : Outside) : Type 0 where
  pub fault : Rose old.write_faults new.write_faults
  pub front : IsFrontOfReport old new
  pub till_read : IsReportedTillRead old new
  pub read_faults : new.read_faults ≡ old.read_faults

-- out of memory: a front of the report was written, with that of all lines that end before the last piece, and no call failed
pub record IsReportOutOfMemory (old new : Outside) : Type 0 where
  pub front : IsFrontOfReport old new
  pub till_read : IsReportedTillRead old new
  pub read_faults : new.read_faults ≡ old.read_faults
  pub write_faults : new.write_faults ≡ old.write_faults

-- each answer of `replay`, with its cause and what it leaves. A refused line ends in the last PIECE bytes taken: what was taken before has
-- none
abbrev pub IsReplayed : Outside → Outside → Status → Type 0
IsReplayed old new Done = IsReport false old new × IsAtEnd new.left
IsReplayed old new Refused = IsReport true old new × IsReportedTillRead old new
IsReplayed old new Words = ⊥
IsReplayed old new ReadFault = IsUnreadReport old new
IsReplayed old new WriteFault = IsUnwrittenReport old new
IsReplayed old new Memory = IsReportOutOfMemory old new
IsReplayed old new LinkFault = ⊥
IsReplayed old new PeerRefused = ⊥
