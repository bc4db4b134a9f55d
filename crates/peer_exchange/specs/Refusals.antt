-- Why bytes aren't taken as a message.
use Rattle.std.specs.Prelude.{◌≡◌, ◌≢◌, ℕ, List, length}
use Rattle.peer_exchange.specs.declared.messages.Which.{Which}
use Rattle.peer_exchange.specs.declared.messages.Measure.{Measure}
use Rattle.peer_exchange.specs.declared.messages.Measure.TheVariants as message
use Rattle.peer_exchange.specs.declared.messages.PeerCause.{PeerCause}
use Rattle.peer_exchange.specs.declared.messages.PeerCause.TheVariants.{Cut, Extra}
use Rattle.peer_exchange.specs.declared.peer.Peer.{Peer}
use Rattle.peer_exchange.specs.declared.peer.Peer.TheVariants.{Bytes, Op, Memory}
use Rattle.peer_exchange.specs.Measuring.{measure_of}

-- the bytes are one whole message
abbrev pub IsWhole : Which → List ℕ → Type 0
IsWhole which bytes = measure_of which bytes ≡ message.Whole (length bytes)

-- so many bytes, of which this is said, aren't one whole message: some are left over, they end before it does, or one is bad
abbrev pub Spoils : ℕ → Measure → ℕ → PeerCause → Type 0
Spoils len (message.Whole used) offset cause = (used ≢ len) × (offset ≡ used) × (cause ≡ Extra)
Spoils len (message.More at_least) offset cause = (offset ≡ len) × (cause ≡ Cut)
Spoils len (message.Bad at why) offset cause = (offset ≡ at) × (cause ≡ why)

-- what a refusal that comes before any frame is taken says of the bytes
abbrev pub IsUnread : Which → List ℕ → Peer → Type 0
IsUnread which bytes (Bytes offset cause) = Spoils (length bytes) (measure_of which bytes) offset cause
IsUnread which bytes (Op member verdict) = ⊥
IsUnread which bytes Memory = IsWhole which bytes
