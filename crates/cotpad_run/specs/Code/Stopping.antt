-- The end of a call whose exchange stopped.
use Rattle.std.specs.Prelude.{◌≡◌, ◌≢◌}
use Rattle.peer_exchange.specs.declared.peer.Peer.{Peer}
use Rattle.site_node.specs.declared.node.Node.{Node}
use Rattle.site_node.specs.declared.node.Node.TheVariants as node
use Rattle.log_replies.specs.declared.status.Status.{Status}
use Rattle.log_replies.specs.declared.status.Status.TheVariants.{Done, Refused, Words, ReadFault, WriteFault, Memory, LinkFault, PeerRefused}
use Rattle.log_replies.specs.Outside.{Outside, IsWritten, IsCutOff}
use Rattle.cotpad_run.specs.Refusals.{refused_peer_text}

-- the sink is as it was
pub record IsUnwrittenOn (old new : Outside) : Type 0 where
  pub held : new.held ≡ old.held
  pub write_faults : new.write_faults ≡ old.write_faults

-- what is answered where an exchange stopped for this reason, and what that leaves in the sink
abbrev pub IsStopTold : Node → Outside → Outside → Status → Type 0
IsStopTold why old new Done = ⊥
IsStopTold why old new Refused = ⊥
IsStopTold why old new Words = ⊥
IsStopTold why old new ReadFault = ⊥
IsStopTold why old new WriteFault = (refusal : Peer) × (why ≡ node.Peer refusal) × IsCutOff (refused_peer_text refusal) old new
IsStopTold why old new Memory = (why ≢ node.Link) × IsUnwrittenOn old new
IsStopTold why old new LinkFault = (why ≡ node.Link) × IsUnwrittenOn old new
IsStopTold why old new PeerRefused = (refusal : Peer) × (why ≡ node.Peer refusal) × IsWritten (refused_peer_text refusal) old new
