-- What `loop` writes, answers, and leaves at the wire: the two sites of a generated session exchange twice.
use Rattle.std.specs.Prelude.{◌≡◌, ◌≢◌, ◌⊎◌, ◌≤◌, ◌+◌, ℕ, false, List, [], ◌∷◌, ◌++◌, codes, decimal}
use Rattle.std.specs.Io.KnownBytes.{Appends}
use Rattle.outside_io.specs.Ends.{End}
use Rattle.outside_io.specs.Faults.{Rose}
use Rattle.outside_io.specs.declared.link.Asked.TheVariants.{Pair}
use Rattle.cot_site.specs.States.{State}
use Rattle.peer_exchange.specs.Exchanges.{Talk, IsExchange}
use Rattle.peer_exchange.specs.declared.peer.Peer.{Peer}
use Rattle.session_replay.specs.Sessions.{SessionData, site_at}
use Rattle.session_replay.specs.Generating.{Plan, generated}
use Rattle.site_node.specs.declared.node.Node.{Node}
use Rattle.site_node.specs.declared.node.Node.TheVariants as node
use Rattle.site_node.specs.Pairs.{IsLooped, IsUnlooped, IsTelling}
use Rattle.log_replies.specs.declared.status.Status.{Status}
use Rattle.log_replies.specs.declared.status.Status.TheVariants.{Done, Refused, Words, ReadFault, WriteFault, Memory, LinkFault, PeerRefused}
use Rattle.log_replies.specs.Outside.{Outside, IsWritten, IsCutOff}
use Rattle.cotpad_run.specs.declared.looped.TheConstants.{LOOP_EVENTS, LOOP_SITES}
use Rattle.cotpad_run.specs.Generating.{alike, equal_text}
use Rattle.cotpad_run.specs.Refusals.{refused_peer_text}
use Rattle.cotpad_run.specs.Wired.{Wired}

-- ---- the sites

-- a session of two sites, at which no message is delivered
abbrev pub pair_plan : ℕ → Plan
pair_plan start = record { start = start; events = LOOP_EVENTS; window = 1; sites = LOOP_SITES; syncs = false }

abbrev pub pair_of : ℕ → SessionData
pair_of start = generated (pair_plan start)

-- site 0 serves, and site 1 joins
abbrev pub server_of : ℕ → State
server_of start = site_at (pair_of start) 0

abbrev pub joiner_of : ℕ → State
joiner_of start = site_at (pair_of start) 1

-- ---- the summary

-- `joined A B` and a line feed: how many frames the server and the joiner sent
abbrev pub joined_text : ℕ × ℕ → List ℕ
joined_text counts = codes "joined " ++ (decimal counts.0 ++ (codes " " ++ (decimal counts.1 ++ codes "\n")))

-- what went in the two exchanges, and how many of the two sites show the text of the server
abbrev pub loop_text : ℕ × ℕ → ℕ × ℕ → ℕ → List ℕ
loop_text once twice equal = joined_text once ++ (joined_text twice ++ equal_text equal)

-- ---- the exchanges

-- the two sites exchanged, and then exchanged again; of them so many show the text of the server
pub record AreLooped (start : ℕ) (once twice : ℕ × ℕ) (equal : ℕ) (old new : ℕ → End) : Type 0 where
  pub server : State
  pub joiner : State
  pub last_server : State
  pub last_joiner : State
  pub between : ℕ → End
  pub first : IsLooped (server_of start) server (joiner_of start) joiner once old between
  pub second : IsLooped server last_server joiner last_joiner twice between new
  pub shown : equal ≡ alike last_server (last_server ∷ last_joiner ∷ [])

-- the first exchange went to its end, and the second one stopped
pub record StopsTwice (start : ℕ) (why : Node) (old new : ℕ → End) : Type 0 where
  pub server : State
  pub joiner : State
  pub last_server : State
  pub last_joiner : State
  pub once : ℕ × ℕ
  pub between : ℕ → End
  pub first : IsLooped (server_of start) server (joiner_of start) joiner once old between
  pub second : IsUnlooped server last_server joiner last_joiner why between new

-- one of the exchanges stopped for this reason
abbrev pub IsParted : ℕ → Node → (ℕ → End) → (ℕ → End) → Type 0
IsParted start why old new =
    ((server : State) × (joiner : State) × IsUnlooped (server_of start) server (joiner_of start) joiner why old new)
    ⊎ StopsTwice start why old new

-- at each end the messages of two exchanges of the pair were sent, one exchange after the other, and all that the other end sent was
-- received
pub record AreTwoTalks (start : ℕ) (old new : ℕ → End) : Type 0 where
  pub server : State
  pub joiner : State
  pub last_server : State
  pub last_joiner : State
  pub once : Talk
  pub twice : Talk
  pub first : IsExchange (server_of start) (joiner_of start) server joiner once
  pub second : IsExchange server joiner last_server last_joiner twice
  pub server_sent : Appends (old 0).sent (new 0).sent (once.second ++ twice.second)
  pub joiner_sent : Appends (old 1).sent (new 1).sent ((once.first ++ once.third) ++ (twice.first ++ twice.third))
  pub server_received : Appends (old 0).received (new 0).received ((once.first ++ once.third) ++ (twice.first ++ twice.third))
  pub joiner_received : Appends (old 1).received (new 1).received (once.second ++ twice.second)

-- ---- the answers

-- so many links to the pair were asked for at most
pub record AreLinked (before after : Wired) : Type 0 where
  pub asked : after.asked ≡ Pair
  pub asks : after.asks ≤ before.asks + 2
  pub peer : after.peer ≡ before.peer

-- the two exchanges went to their end, and so many of the frames were sent
pub record AreJoined (start : ℕ) (before after : Wired) : Type 0 where
  pub once : ℕ × ℕ
  pub twice : ℕ × ℕ
  pub equal : ℕ
  pub looped : AreLooped start once twice equal before.ends after.ends
  pub link : AreLinked before after
  pub faultless : after.faults ≡ before.faults

abbrev pub summary_of : (start : ℕ) (before after : Wired) → AreJoined start before after → List ℕ
summary_of start before after joined = loop_text joined.once joined.twice joined.equal

-- the summary was written
pub record IsLoopWritten (start : ℕ) (old new : Outside) (before after : Wired) : Type 0 where
  pub joined : AreJoined start before after
  pub written : IsWritten (summary_of start before after joined) old new

-- a write failed: a front of the summary was written, or of the line that refuses what came over the pair
pub record IsLoopCutOff (start : ℕ) (old new : Outside) (before after : Wired) : Type 0 where
  pub joined : AreJoined start before after
  pub cut_off : IsCutOff (summary_of start before after joined) old new

pub record IsRefusalCutOff (start : ℕ) (old new : Outside) (before after : Wired) : Type 0 where
  pub why : Peer
  pub stopped : IsParted start (node.Peer why) before.ends after.ends
  pub link : AreLinked before after
  pub cut_off : IsCutOff (refused_peer_text why) old new
  pub faultless : after.faults ≡ before.faults

-- what came over the pair is refused, and the line that says so was written
pub record IsLoopRefused (start : ℕ) (old new : Outside) (before after : Wired) : Type 0 where
  pub why : Peer
  pub stopped : IsParted start (node.Peer why) before.ends after.ends
  pub link : AreLinked before after
  pub written : IsWritten (refused_peer_text why) old new
  pub faultless : after.faults ≡ before.faults

-- the wire failed, and nothing was written
pub record IsLoopLost (start : ℕ) (old new : Outside) (before after : Wired) : Type 0 where
  pub stopped : IsParted start node.Link before.ends after.ends
  pub link : AreLinked before after
  pub fault : Rose before.faults after.faults
  pub held : new.held ≡ old.held
  pub write_faults : new.write_faults ≡ old.write_faults

-- the exchanges went as far as they did: to their end, or until one of them stopped, but not because the wire failed
abbrev pub HaveGone : ℕ → (ℕ → End) → (ℕ → End) → Type 0
HaveGone start old new =
    ((once : ℕ × ℕ) × (twice : ℕ × ℕ) × (equal : ℕ) × AreLooped start once twice equal old new)
    ⊎ ((why : Node) × (why ≢ node.Link) × IsParted start why old new)

-- out of memory: nothing was written, and no call failed; either the wire wasn't called, or the exchanges went as far as they did
pub record IsLoopShort (start : ℕ) (old new : Outside) (before after : Wired) : Type 0 where
  pub link : (after ≡ before) ⊎ (AreLinked before after × HaveGone start before.ends after.ends)
  pub faultless : after.faults ≡ before.faults
  pub held : new.held ≡ old.held
  pub write_faults : new.write_faults ≡ old.write_faults

-- each answer, with its cause and what it leaves
abbrev pub IsLooping : ℕ → Outside → Outside → Wired → Wired → Status → Type 0
IsLooping start old new before after Done = IsLoopWritten start old new before after
IsLooping start old new before after Refused = ⊥
IsLooping start old new before after Words = ⊥
IsLooping start old new before after ReadFault = ⊥
IsLooping start old new before after WriteFault = IsLoopCutOff start old new before after ⊎ IsRefusalCutOff start old new before after
IsLooping start old new before after Memory = IsLoopShort start old new before after
IsLooping start old new before after LinkFault = IsLoopLost start old new before after
IsLooping start old new before after PeerRefused = IsLoopRefused start old new before after

-- ---- over a wire that tells its bytes

-- the messages of two exchanges went, each site made 8 operations that the other lacked, and in the end both show the same text
pub record IsLoopWhole (start : ℕ) (old new : Outside) (before after : Wired) : Type 0 where
  pub talks : AreTwoTalks start before.ends after.ends
  pub written : IsWritten (loop_text (8, 8) (0, 0) 2) old new

-- the same where a write failed: a front of the summary was written
pub record IsLoopWholeButCut (start : ℕ) (old new : Outside) (before after : Wired) : Type 0 where
  pub talks : AreTwoTalks start before.ends after.ends
  pub cut_off : IsCutOff (loop_text (8, 8) (0, 0) 2) old new

-- so it is where the answer is Done or a write failed, and nothing of what came is refused
abbrev pub IsLoopTold : ℕ → Outside → Outside → Wired → Wired → Status → Type 0
IsLoopTold start old new before after Done = IsLoopWhole start old new before after
IsLoopTold start old new before after Refused = Unit {0}
IsLoopTold start old new before after Words = Unit {0}
IsLoopTold start old new before after ReadFault = Unit {0}
IsLoopTold start old new before after WriteFault = IsLoopWholeButCut start old new before after
IsLoopTold start old new before after Memory = Unit {0}
IsLoopTold start old new before after LinkFault = Unit {0}
IsLoopTold start old new before after PeerRefused = ⊥

-- each answer of `loop`, with its cause and what it leaves; over a pair that tells its bytes the messages are those of both, and the
-- summary is of all that each site made
pub record IsLoopAnswered (start : ℕ) (old new : Outside) (before after : Wired) (status : Status) : Type 0 where
  pub answer : IsLooping start old new before after status
  pub told : IsTelling before.ends → IsLoopTold start old new before after status
