-- What a command that reads a log and replies to it answers, and what it leaves in the source and in the sink: one table for those that
-- write their reply whole, and one for those that write it piece by piece.
use Rattle.std.specs.Prelude.{◌≡◌, ◌⊎◌, ◌+◌, ◌++◌, Bool, true, false, List, ℕ, Option, Some, IfSome, drop}
use Rattle.std.specs.Io.KnownBytes.{Appends, IsAtEnd}
use Rattle.outside_io.specs.Faults.{Rose}
use Rattle.outside_io.specs.Reading.{LosesFront}
use Rattle.outside_io.specs.Writing.{WritesFront}
use Rattle.outside_io.specs.declared.reading.TheConstants.{MAX_INPUT}
use Rattle.script_text.specs.Report.{Report}
use Rattle.log_replies.specs.declared.status.Status.{Status}
use Rattle.log_replies.specs.declared.status.Status.TheVariants.{Done, Refused, Words, ReadFault, WriteFault, Memory, LinkFault, PeerRefused}
use Rattle.log_replies.specs.Outside.{Outside, Grows}

-- what a command may reply to its input
abbrev pub Replies : Type 1
Replies = List ℕ → Report → Type 0

-- the input was read: to its end, or to one byte past the limit, and no further
pub record IsInput (old new : Outside) : Type 0 where
  pub read : IfSome old.left (λ bytes. new.left ≡ Some (drop (MAX_INPUT + 1) bytes))
  pub faultless : new.read_faults ≡ old.read_faults

-- a reply to these bytes, which refuses something or not, was written
pub record IsReplied (replies : Replies) (refused : Bool) (held now : Option (List ℕ)) (bytes : List ℕ) : Type 0 where
  pub reply : Report
  pub right : replies bytes reply
  pub told : reply.refused ≡ refused
  pub written : Appends held now reply.written

-- a front of a reply to these bytes was written
pub record IsPartlyReplied (replies : Replies) (held now : Option (List ℕ)) (bytes : List ℕ) : Type 0 where
  pub reply : Report
  pub right : replies bytes reply
  pub front : WritesFront held now reply.written

-- the reply to the bytes that the source had left was written, and no call failed
pub record IsAnswer (replies : Replies) (refused : Bool) (old new : Outside) : Type 0 where
  pub reply : IfSome old.left (IsReplied replies refused old.held new.held)
  pub kept : Grows old.held new.held
  pub input : IsInput old new
  pub faultless : new.write_faults ≡ old.write_faults

-- a read failed, and nothing was written
pub record IsUnread (old new : Outside) : Type 0 where
  pub fault : Rose old.read_faults new.read_faults
  pub lost : LosesFront (MAX_INPUT + 1) old.left new.left
  pub held : new.held ≡ old.held
  pub write_faults : new.write_faults ≡ old.write_faults

-- a write failed: a front of the reply was written
pub record IsUnwritten (replies : Replies) (old new : Outside) : Type 0 where
  pub fault : Rose old.write_faults new.write_faults
  pub front : IfSome old.left (IsPartlyReplied replies old.held new.held)
  pub kept : Grows old.held new.held
  pub input : IsInput old new

-- out of memory: nothing was written, and no call failed
pub record IsOutOfMemory (old new : Outside) : Type 0 where
  pub lost : LosesFront (MAX_INPUT + 1) old.left new.left
  pub held : new.held ≡ old.held
  pub read_faults : new.read_faults ≡ old.read_faults
  pub write_faults : new.write_faults ≡ old.write_faults

-- each answer of a command that reads its input, with its cause and what it leaves
abbrev pub IsAnswered : Replies → Outside → Outside → Status → Type 0
IsAnswered replies old new Done = IsAnswer replies false old new × IsAtEnd new.left
IsAnswered replies old new Refused = IsAnswer replies true old new
IsAnswered replies old new Words = ⊥
IsAnswered replies old new ReadFault = IsUnread old new
IsAnswered replies old new WriteFault = IsUnwritten replies old new
IsAnswered replies old new Memory = IsOutOfMemory old new
IsAnswered replies old new LinkFault = ⊥
IsAnswered replies old new PeerRefused = ⊥

-- ---- replies that are written piece by piece

-- those replies that refuse nothing
abbrev pub accepted : Replies → Replies
accepted replies bytes reply = replies bytes reply × (reply.refused ≡ false)

-- the input was read to its end, and a front of a reply that refuses nothing was written
pub record IsBrokenOff (replies : Replies) (old new : Outside) : Type 0 where
  pub front : IfSome old.left (IsPartlyReplied (accepted replies) old.held new.held)
  pub input : IsInput old new
  pub ended : IsAtEnd new.left

-- out of memory: nothing was written, or the reply was broken off; no call failed
pub record IsOutMidway (replies : Replies) (old new : Outside) : Type 0 where
  pub front : (new.held ≡ old.held) ⊎ IsBrokenOff replies old new
  pub lost : LosesFront (MAX_INPUT + 1) old.left new.left
  pub kept : Grows old.held new.held
  pub read_faults : new.read_faults ≡ old.read_faults
  pub write_faults : new.write_faults ≡ old.write_faults

-- each answer of a command that reads its input, and then writes its reply piece by piece: it may run out of memory midway
abbrev pub IsStreamed : Replies → Outside → Outside → Status → Type 0
IsStreamed replies old new Done = IsAnswer replies false old new × IsAtEnd new.left
IsStreamed replies old new Refused = IsAnswer replies true old new
IsStreamed replies old new Words = ⊥
IsStreamed replies old new ReadFault = IsUnread old new
IsStreamed replies old new WriteFault = IsUnwritten replies old new
IsStreamed replies old new Memory = IsOutMidway replies old new
IsStreamed replies old new LinkFault = ⊥
IsStreamed replies old new PeerRefused = ⊥

-- ---- what commands append

-- a reply to this, an input or a state, which refuses something or not, stands after what was there
pub record IsAppended {A : Type 0} (replies : A → Report → Type 0) (refused : Bool) (this : A) (old new : List ℕ) : Type 0 where
  pub reply : Report
  pub right : replies this reply
  pub told : reply.refused ≡ refused
  pub appended : new ≡ old ++ reply.written
