-- What reading a message does at an end of a wire.
use Rattle.std.specs.Prelude.{◌≡◌, ◌≤◌, ℕ, List, ◌++◌, length}
use Rattle.std.specs.Io.KnownBytes.{Appends, Consumes}
use Rattle.outside_io.specs.Ends.{End}
use Rattle.peer_exchange.specs.declared.messages.Which.{Which}
use Rattle.site_node.specs.declared.node.Node.{Node}
use Rattle.site_node.specs.Stops.{Explains}

-- these bytes were to come at the end, and are received
pub record Receives (old new : End) (bytes : List ℕ) : Type 0 where
  pub received : Appends old.received new.received bytes
  pub consumed : Consumes old.to_come new.to_come bytes
  pub sent : new.sent ≡ old.sent

-- they stand after those that came before
pub record Gains (old new : End) (before after : List ℕ) : Type 0 where
  pub piece : List ℕ
  pub grown : after ≡ before ++ piece
  pub moved : Receives old new piece

-- bytes came, no more than there was room for, and weren't kept: the wire failed, or there was no memory
pub record Loses (old new : End) (room : ℕ) : Type 0 where
  pub piece : List ℕ
  pub few : length piece ≤ room
  pub moved : Receives old new piece

-- no message: some bytes were received, and say why
pub record IsStopped (which : Which) (old new : End) (why : Node) : Type 0 where
  pub came : List ℕ
  pub receives : Receives old new came
  pub explains : Explains which came why
