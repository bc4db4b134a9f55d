-- Why an exchange stops.
use Rattle.std.specs.Prelude.{◌≡◌, ◌⊎◌, ℕ, ◌<◌, ◌≤◌, List, [], ◌++◌, length, Result, IsOk, Err}
use Rattle.outside_io.specs.Faults.{Rose}
use Rattle.peer_exchange.specs.declared.messages.Which.{Which}
use Rattle.peer_exchange.specs.declared.messages.TheConstants.{MAX_MESSAGE}
use Rattle.peer_exchange.specs.declared.messages.Measure.TheVariants as message
use Rattle.peer_exchange.specs.declared.messages.PeerCause.{PeerCause}
use Rattle.peer_exchange.specs.declared.messages.PeerCause.TheVariants.{Head, Frame, Cut, Extra, Limit}
use Rattle.peer_exchange.specs.declared.peer.Peer.{Peer}
use Rattle.peer_exchange.specs.declared.peer.Peer.TheVariants as refused
use Rattle.peer_exchange.specs.Measuring.{measure_of}
use Rattle.site_node.specs.declared.node.Node.{Node}
use Rattle.site_node.specs.declared.node.Node.TheVariants as node

-- why a message isn't taken, as the reason why an exchange stops
abbrev pub node_of : Peer → Node
node_of (refused.Bytes offset cause) = node.Peer (refused.Bytes offset cause)
node_of (refused.Op member verdict) = node.Peer (refused.Op member verdict)
node_of refused.Memory = node.Memory

-- the message isn't whole after these bytes
abbrev pub IsUnfinishedIn : Which → List ℕ → Type 0
IsUnfinishedIn which bytes = (at_least : ℕ) × (measure_of which bytes ≡ message.More at_least)

-- the last of these bytes were asked for: without them the message wasn't whole, and had no fault; and all of them are no more than it
-- asked for then, nor than a message may have
pub record WereAskedFor (which : Which) (bytes : List ℕ) : Type 0 where
  pub front : List ℕ
  pub piece : List ℕ
  pub parts : bytes ≡ front ++ piece
  pub at_least : ℕ
  pub asked : measure_of which front ≡ message.More at_least
  pub within : length bytes ≤ at_least
  pub short : length bytes ≤ MAX_MESSAGE

-- each byte that came was asked for
abbrev pub AreAskedFor : Which → List ℕ → Type 0
AreAskedFor which bytes = (bytes ≡ []) ⊎ WereAskedFor which bytes

-- what a fault of a message says of the bytes that were received of it: they have it at the offset; or they end before the message
-- does, and are fewer than a message may have, or as many
abbrev pub IsSpoilt : Which → List ℕ → ℕ → PeerCause → Type 0
IsSpoilt which bytes offset Head = measure_of which bytes ≡ message.Bad offset Head
IsSpoilt which bytes offset (Frame cause) = measure_of which bytes ≡ message.Bad offset (Frame cause)
IsSpoilt which bytes offset Cut = IsUnfinishedIn which bytes × (length bytes < MAX_MESSAGE) × (offset ≡ length bytes)
IsSpoilt which bytes offset Extra = ⊥
IsSpoilt which bytes offset Limit = IsUnfinishedIn which bytes × (length bytes ≡ MAX_MESSAGE) × (offset ≡ MAX_MESSAGE)

-- what the reason why a message wasn't received says of the bytes that came of it: each was asked for, so none lies past the message, or
-- past its first fault by more than a piece
abbrev pub Explains : Which → List ℕ → Node → Type 0
Explains which bytes node.Link = AreAskedFor which bytes
Explains which bytes (node.Peer (refused.Bytes offset cause)) = AreAskedFor which bytes × IsSpoilt which bytes offset cause
Explains which bytes (node.Peer (refused.Op member verdict)) = ⊥
Explains which bytes (node.Peer refused.Memory) = ⊥
Explains which bytes node.Memory = AreAskedFor which bytes

-- the count of faults rises where the wire failed, and else stays
pub record OnlyLinkFails {T : Type 0} (before now : ℕ) (result : Result T Node) : Type 0 where
  pub later : before ≤ now
  pub link : result ≡ Err node.Link → Rose before now
  pub well : IsOk result → now ≡ before
  pub other : (why : Node) → result ≡ Err why → (why ≡ node.Link → ⊥) → now ≡ before
