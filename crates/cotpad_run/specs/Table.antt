-- The table of commands: a row for each, and what is promised of all.
use Rattle.std.specs.Prelude.{◌≡◌, ◌⊎◌, ◌+◌, ℕ, Bool, true, false, List, Option, None, Some, IsSome, String}
use Rattle.outside_io.specs.Faults.{Rose}
use Rattle.outside_io.specs.Reading.{LosesFront}
use Rattle.outside_io.specs.declared.link.Asked.{Asked}
use Rattle.outside_io.specs.declared.link.Asked.TheVariants.{Peer, Pair}
use Rattle.outside_io.specs.declared.reading.TheConstants.{MAX_INPUT}
use Rattle.site_node.specs.Pairs.{IsTelling}
use Rattle.log_replies.specs.declared.status.Status.{Status}
use Rattle.log_replies.specs.declared.status.Status.TheVariants.{Done, Memory, PeerRefused}
use Rattle.log_replies.specs.Addressing.{IsLocated, IsFound}
use Rattle.log_replies.specs.Answers.{Replies, IsAnswered, IsStreamed}
use Rattle.log_replies.specs.Explaining.{IsExplained}
use Rattle.log_replies.specs.Outside.{Outside, Grows}
use Rattle.log_replies.specs.PastTexts.{IsShownAt}
use Rattle.log_replies.specs.PlayedTexts.{IsPlayedBack}
use Rattle.log_replies.specs.Replies.{IsShown, IsEdited, IsUpgraded}
use Rattle.log_replies.specs.Statuses.{IsReported}
use Rattle.log_listings.specs.Listings.{IsListed}
use Rattle.log_listings.specs.Digests.{IsDigested}
use Rattle.cotpad_run.specs.Commands.{CommandData, Replay, Show, Edit, Upgrade, History, Digest, Gen, Explain, Where, Find, At, Playback, Serve, Join, Loop, Help, DashedHelp, Version, DashedVersion}
use Rattle.cotpad_run.specs.Generating.{IsGenerated}
use Rattle.cotpad_run.specs.Help.{help_text, version_text}
use Rattle.cotpad_run.specs.Looping.{IsLoopAnswered}
use Rattle.cotpad_run.specs.Made.{IsSaid}
use Rattle.cotpad_run.specs.Meeting.{Side, serving, joining, IsMeeting, AgreesWithPeer}
use Rattle.cotpad_run.specs.Replaying.{IsReplayed}
use Rattle.cotpad_run.specs.Wired.{Wired, IsAskedFor}
use Rattle.cotpad_run.specs.Words.{Spells, SpellNothing, AreWrongWords}

-- what a call meets, and what it leaves: at the source and the sink, and at the wire
pub record World : Type 0 where
  pub outside : Outside
  pub wire : Wired

abbrev pub world : Outside → Wired → World
world outside wire = record { outside = outside; wire = wire }

-- ---- the table

-- a row: when each status comes, and what it leaves; whether the source is read, and whether something may be written before a read
-- fails or memory runs out; the link that the wire is asked for, and how often at most; and whom the command needs beside calls that
-- don't fail
pub record Row : Type 1 where
  pub answers : World → World → Status → Type 0
  pub reads : Bool
  pub streams : Bool
  pub link : Option (Asked × ℕ)
  pub matched : World → Type 0

-- a command that reads its input whole, and writes one reply to it
abbrev pub replying : Replies → Row
replying replies =
    record {
      answers = λ old new. IsAnswered replies old.outside new.outside;
      reads = true;
      streams = false;
      link = None;
      matched = λ _. Unit {0};
    }

-- a command that reads its input whole, and then writes one reply to it, piece by piece
abbrev pub streaming : Replies → Row
streaming replies =
    record {
      answers = λ old new. IsStreamed replies old.outside new.outside;
      reads = true;
      streams = true;
      link = None;
      matched = λ _. Unit {0};
    }

-- a command that loads a log, and exchanges with a peer at a port: it needs one that agrees, and whose messages come whole
abbrev pub meeting : Side → ℕ → Row
meeting side port = record {
  answers = λ old new. IsMeeting side port old.outside new.outside old.wire new.wire;
  reads = true;
  streams = false;
  link = Some (Peer side.role port, 1);
  matched = λ old. AgreesWithPeer side old.outside old.wire;
}

-- a command that reads nothing, and writes this text
abbrev pub saying : List ℕ → Row
saying text =
    record {
      answers = λ old new. IsSaid text old.outside new.outside;
      reads = false;
      streams = false;
      link = None;
      matched = λ _. Unit {0};
    }

-- the row of each command
abbrev pub row_of : CommandData → Row
row_of Replay =
    record { answers = λ old new. IsReplayed old.outside new.outside; reads = true; streams = true; link = None; matched = λ _. Unit {0} }
row_of Show = replying IsShown
row_of (Edit site edit) = replying (IsEdited site edit)
row_of Upgrade = replying IsUpgraded
row_of History = replying IsListed
row_of Digest = replying IsDigested
row_of (Explain m) = replying (IsExplained m)
row_of (Where place) = replying (IsLocated place)
row_of (Find line column) = replying (IsFound line column)
row_of (At c) = replying (IsShownAt c)
row_of Playback = streaming IsPlayedBack
row_of (Gen start events window) = record {
  answers = λ old new. IsGenerated start events window old.outside new.outside;
  reads = false;
  streams = false;
  link = None;
  matched = λ _. Unit {0};
}
row_of (Serve port) = meeting serving port
row_of (Join port) = meeting joining port
row_of (Loop start) = record {
  answers = λ old new. IsLoopAnswered start old.outside new.outside old.wire new.wire;
  reads = false;
  streams = false;
  link = Some (Pair, 2);
  matched = λ old. IsTelling old.wire.ends;
}
row_of Help = saying help_text
row_of DashedHelp = saying help_text
row_of Version = saying version_text
row_of DashedVersion = saying version_text

abbrev pub Reads : CommandData → Type 0
Reads command = (row_of command).reads ≡ true

abbrev pub Streams : CommandData → Type 0
Streams command = (row_of command).streams ≡ true

abbrev pub Links : CommandData → Type 0
Links command = IsSome (row_of command).link

-- ---- what is promised of all commands

-- the wire is as it was, or it was asked for this link at most so often
abbrev pub AsksFor : Option (Asked × ℕ) → Wired → Wired → Type 0
AsksFor None before after = after ≡ before
AsksFor (Some link) before after = IsAskedFor link.0 link.1 before after

-- no call that the command makes of the source, the sink or the wire failed
pub record WentWell (row : Row) (old new : World) : Type 0 where
  pub source : row.reads ≡ true → ¬ Rose old.outside.read_faults new.outside.read_faults
  pub sink : ¬ Rose old.outside.write_faults new.outside.write_faults
  pub wire : IsSome row.link → ¬ Rose old.wire.faults new.wire.faults

-- the reply is written, unless out of memory; where the wire is called, what came over it may be refused
abbrev pub EndsWell : Row → Status → Type 0
EndsWell row status = (IsReported status ⊎ (status ≡ Memory)) ⊎ (IsSome row.link × (status ≡ PeerRefused))

-- the command did what it is for, unless out of memory; one that calls no wire may refuse what it read
abbrev pub IsComplete : Row → Status → Type 0
IsComplete row status = ((status ≡ Done) ⊎ (status ≡ Memory)) ⊎ ((¬ IsSome row.link) × IsReported status)

-- a command of this row was done, and ended with this status: it answers as the row says; it takes no more of the source than an
-- input may have, and one byte; what the sink held stays in front; it asks for no link but the row's; where no call failed, it ends
-- with a reply or out of memory; and then, with whom it needs, it is complete
pub record IsDone (row : Row) (old new : World) (status : Status) : Type 0 where
  pub answer : row.answers old new status
  pub taken : LosesFront (MAX_INPUT + 1) old.outside.left new.outside.left
  pub held : Grows old.outside.held new.outside.held
  pub link : AsksFor row.link old.wire new.wire
  pub ends : WentWell row old new → EndsWell row status
  pub complete : WentWell row old new → row.matched old → IsComplete row status

-- ---- what a call of the program does

-- the command that the words spell was done, or they spell none, and are refused
pub record IsRun {A : Type 0} (words : List (String A)) (old new : World) (status : Status) : Type 0 where
  pub done : (command : CommandData) → Spells words command → IsDone (row_of command) old new status
  pub wrong : SpellNothing words → AreWrongWords old.outside new.outside status
