-- What `serve` and `join` answer, and what they leave in the source, in the sink and at the wire: one table for both.
use Rattle.std.specs.Prelude.{◌≡◌, ◌≢◌, ◌⊎◌, ℕ, ◌+◌, min, true, List, Some, IfSome}
use Rattle.std.specs.Io.KnownBytes.{Appends, IsAtEnd}
use Rattle.outside_io.specs.Faults.{Rose, last_count}
use Rattle.outside_io.specs.declared.link.Role.{Role}
use Rattle.outside_io.specs.declared.link.Role.TheVariants.{Listen, Connect}
use Rattle.outside_io.specs.declared.link.Asked.TheVariants as asked
use Rattle.cot_site.specs.States.{State}
use Rattle.cot_site.specs.Releases.{IsLater}
use Rattle.peer_exchange.specs.declared.messages.PeerCause.TheVariants.{Cut}
use Rattle.peer_exchange.specs.declared.peer.Peer.{Peer}
use Rattle.peer_exchange.specs.declared.peer.Peer.TheVariants.{Bytes}
use Rattle.session_log.specs.Logs.{log_of}
use Rattle.site_node.specs.declared.node.Node.{Node}
use Rattle.site_node.specs.declared.node.Node.TheVariants as node
use Rattle.site_node.specs.Exchanges.{Exchanges, IsServed, IsUnserved, IsBrought, IsUnjoined}
use Rattle.log_replies.specs.declared.status.Status.{Status}
use Rattle.log_replies.specs.declared.status.Status.TheVariants.{Done, Refused, Words, ReadFault, WriteFault, Memory, LinkFault, PeerRefused}
use Rattle.log_replies.specs.Answers.{Replies, IsInput, IsAnswer, IsUnread, IsUnwritten, IsOutOfMemory}
use Rattle.log_replies.specs.Outside.{Outside, IsWritten, IsCutOff}
use Rattle.log_replies.specs.Replies.{IsRefusal, IsLoadedAs, refusing}
use Rattle.cotpad_run.specs.Peers.{AreOfJoiner, AreOfServer}
use Rattle.cotpad_run.specs.Refusals.{refused_peer_text}
use Rattle.cotpad_run.specs.Wired.{Wired}

-- one side of an exchange with a peer: how it goes to the peer; what the bytes received and sent say of the states before and after,
-- and of how many frames were sent and taken; what they say where it stopped; and which bytes are those of another site that agrees
pub record Side : Type 1 where
  pub role : Role
  pub meets : State → State → ℕ × ℕ → List ℕ → List ℕ → Type 0
  pub stops : State → State → Node → List ℕ → List ℕ → Type 0
  pub theirs : State → State → List ℕ → Type 0

-- the side that waits for the peer, and the one that goes to it
abbrev pub serving : Side
serving = record { role = Listen; meets = IsServed; stops = IsUnserved; theirs = AreOfJoiner }

abbrev pub joining : Side
joining = record { role = Connect; meets = IsBrought; stops = IsUnjoined; theirs = AreOfServer }

-- the wire was asked once for a link to the peer at the port; the peer's bytes, and what went over the other end, stay
pub record IsLinkedOnce (role : Role) (port : ℕ) (before after : Wired) : Type 0 where
  pub asked : after.asked ≡ asked.Peer role port
  pub asks : after.asks ≡ min (before.asks + 1) last_count
  pub peer : after.peer ≡ before.peer
  pub other_sent : (after.ends 1).sent ≡ (before.ends 1).sent
  pub other_received : (after.ends 1).received ≡ (before.ends 1).received

-- the source's log, read to its end, was loaded as site 0, in this state; at end 0 these bytes were received, which those of the peer
-- begin with, and these sent, and they say this of the state and of the one afterwards, in which what was integrated stays so
pub record IsMet (side : Side) (port : ℕ) (says : State → State → List ℕ → List ℕ → Type 0) (old new : Outside)
    (before after : Wired) : Type 0 where
  pub site : State
  pub left : State
  pub loaded : IfSome old.left (λ bytes. IsLoadedAs 0 bytes site)
  pub said : Exchanges (before.ends 0) (after.ends 0) before.peer (says site left)
  pub later : IsLater site left
  pub link : IsLinkedOnce side.role port before after
  pub input : IsInput old new
  pub at_end : IsAtEnd new.left

-- the exchange went to its end, or stopped for this reason
abbrev pub Meets : Side → State → State → List ℕ → List ℕ → Type 0
Meets side s t came gone = (counts : ℕ × ℕ) × side.meets s t counts came gone

abbrev pub Stops : Side → Node → State → State → List ℕ → List ℕ → Type 0
Stops side why s t came gone = side.stops s t why came gone

-- ---- the answers

-- the exchange went to its end, and the log of the state that it left was written
pub record IsMetAndWritten (side : Side) (port : ℕ) (old new : Outside) (before after : Wired) : Type 0 where
  pub met : IsMet side port (Meets side) old new before after
  pub written : IsWritten (log_of met.left.history met.left.waiting) old new
  pub faultless : after.faults ≡ before.faults

-- what the peer sent is refused, for this reason, and the line that says so was written. That the bytes end too early is said only
-- where all of the peer's bytes were received
pub record IsPeerRefused (side : Side) (port : ℕ) (old new : Outside) (before after : Wired) : Type 0 where
  pub why : Peer
  pub met : IsMet side port (Stops side (node.Peer why)) old new before after
  pub cut : (offset : ℕ) → why ≡ Bytes offset Cut → IfSome before.peer (Appends (before.ends 0).received (after.ends 0).received)
  pub written : IsWritten (refused_peer_text why) old new
  pub faultless : after.faults ≡ before.faults

-- the wire failed, and nothing was written
pub record IsLinkLost (side : Side) (port : ℕ) (old new : Outside) (before after : Wired) : Type 0 where
  pub met : IsMet side port (Stops side node.Link) old new before after
  pub fault : Rose before.faults after.faults
  pub held : new.held ≡ old.held
  pub write_faults : new.write_faults ≡ old.write_faults

-- a write failed: a front of the log was written, or of the line that refuses what the peer sent
pub record IsLogCutOff (side : Side) (port : ℕ) (old new : Outside) (before after : Wired) : Type 0 where
  pub met : IsMet side port (Meets side) old new before after
  pub cut_off : IsCutOff (log_of met.left.history met.left.waiting) old new
  pub faultless : after.faults ≡ before.faults

pub record IsLineCutOff (side : Side) (port : ℕ) (old new : Outside) (before after : Wired) : Type 0 where
  pub why : Peer
  pub met : IsMet side port (Stops side (node.Peer why)) old new before after
  pub cut_off : IsCutOff (refused_peer_text why) old new
  pub faultless : after.faults ≡ before.faults

-- the exchange went to its end, or stopped, but not because the wire failed: so each message was sent whole, or not at all
abbrev pub MeetsOrStops : Side → State → State → List ℕ → List ℕ → Type 0
MeetsOrStops side s t came gone = Meets side s t came gone ⊎ ((why : Node) × (why ≢ node.Link) × Stops side why s t came gone)

-- out of memory once the wire was called: while the exchange went on, or as its log or its refusal was made
abbrev pub IsShortAfter : Side → ℕ → Outside → Outside → Wired → Wired → Type 0
IsShortAfter side port old new before after = IsMet side port (MeetsOrStops side) old new before after × (after.faults ≡ before.faults)

-- the line that refuses the input as the log of site 0
abbrev pub RefusesLog : Replies
RefusesLog bytes reply = (line : List ℕ) × IsRefusal 0 bytes line × (reply ≡ refusing line)

-- each answer, with its cause and what it leaves
abbrev pub IsMeeting : Side → ℕ → Outside → Outside → Wired → Wired → Status → Type 0
IsMeeting side port old new before after Done = IsMetAndWritten side port old new before after
IsMeeting side port old new before after Refused = IsAnswer RefusesLog true old new × (after ≡ before)
IsMeeting side port old new before after Words = ⊥
IsMeeting side port old new before after ReadFault = IsUnread old new × (after ≡ before)
IsMeeting side port old new before after WriteFault =
    (IsUnwritten RefusesLog old new × (after ≡ before))
    ⊎ (IsLogCutOff side port old new before after ⊎ IsLineCutOff side port old new before after)
IsMeeting side port old new before after Memory = IsOutOfMemory old new × ((after ≡ before) ⊎ IsShortAfter side port old new before after)
IsMeeting side port old new before after LinkFault = IsLinkLost side port old new before after
IsMeeting side port old new before after PeerRefused = IsPeerRefused side port old new before after

-- ---- completeness

-- the input is a log, loaded as this state, and the peer's bytes are the messages of another site with which it agrees; both, and the
-- bytes received so far, are told
pub record AgreesWithPeer (side : Side) (old : Outside) (before : Wired) : Type 0 where
  pub log : List ℕ
  pub theirs : List ℕ
  pub received : List ℕ
  pub site : State
  pub other : State
  pub left : old.left ≡ Some log
  pub loaded : IsLoadedAs 0 log site
  pub peer : before.peer ≡ Some theirs
  pub told : (before.ends 0).received ≡ Some received
  pub messages : side.theirs site other theirs

-- no call of the source, the sink or the wire failed
pub record AreFaultless (old new : Outside) (before after : Wired) : Type 0 where
  pub source : Rose old.read_faults new.read_faults → ⊥
  pub sink : Rose old.write_faults new.write_faults → ⊥
  pub wire : Rose before.faults after.faults → ⊥
