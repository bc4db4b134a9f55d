-- Carrying a message over a pair.
use Rattle.std.specs.Prelude.{◌≡◌, ℕ, List, [], ◌++◌, Some, take}
use Rattle.std.specs.Io.KnownBytes.{Appends}
use Rattle.outside_io.specs.Ends.{End}
use Rattle.peer_exchange.specs.declared.messages.Which.{Which}
use Rattle.peer_exchange.specs.Refusals.{IsWhole}
use Rattle.site_node.specs.declared.node.Node.{Node}
use Rattle.site_node.specs.Exchanges.{IsFrontOf}
use Rattle.site_node.specs.Pairs.{IsUnspoilt}
use Rattle.site_node.specs.Stops.{Explains}

-- the next piece of the bytes, of which so many were written, goes, and is to come at the other end
pub record SendsOn (old new other_old other_new : End) (bytes : List ℕ) (at next : ℕ) : Type 0 where
  pub piece : List ℕ
  pub parts : take next bytes ≡ take at bytes ++ piece
  pub sent : Appends old.sent new.sent piece
  pub brought : Appends other_old.to_come other_new.to_come piece

-- this message was received at the other end; where nothing but the bytes of a whole message was to come there, it is that message
pub record IsCarried (old new : End) (which : Which) (bytes message : List ℕ) : Type 0 where
  pub received : Appends old.received new.received message
  pub same : IsWhole which bytes → old.to_come ≡ Some [] → (message ≡ bytes) × (new.to_come ≡ Some [])

-- a front of the bytes went, and no message was received at the other end; where nothing else was to come there, what came is a front
-- of what went, and of a whole message it has no fault
pub record IsUncarried (old new other_old other_new : End) (which : Which) (bytes : List ℕ) (why : Node) : Type 0 where
  pub gone : List ℕ
  pub front : IsFrontOf gone bytes
  pub sent : Appends old.sent new.sent gone
  pub came : List ℕ
  pub received : Appends other_old.received other_new.received came
  pub explains : Explains which came why
  pub carried : other_old.to_come ≡ Some [] → IsFrontOf came gone
  pub unspoilt : IsWhole which bytes → other_old.to_come ≡ Some [] → IsUnspoilt why
