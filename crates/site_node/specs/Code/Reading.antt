-- Reading a message piece by piece.
use Rattle.std.specs.Prelude.{ℕ, ◌≤◌, List, ◌++◌, length}
use Rattle.outside_io.specs.Ends.{End}
use Rattle.peer_exchange.specs.declared.messages.Which.{Which}
use Rattle.peer_exchange.specs.declared.messages.TheConstants.{MAX_MESSAGE}
use Rattle.peer_exchange.specs.Measuring.{NotPast}
use Rattle.site_node.specs.declared.node.Node.{Node}
use Rattle.site_node.specs.Moves.{Receives}
use Rattle.site_node.specs.Stops.{AreAskedFor, Explains}

-- what came of a message: no more than one may have, none past its end, and each byte was asked for
pub record IsPart (which : Which) (bytes : List ℕ) : Type 0 where
  pub short : length bytes ≤ MAX_MESSAGE
  pub past : NotPast which bytes
  pub asked : AreAskedFor which bytes

-- no message: some bytes came after these, and all of them say why
pub record StopsAfter (which : Which) (old new : End) (before : List ℕ) (why : Node) : Type 0 where
  pub piece : List ℕ
  pub receives : Receives old new piece
  pub explains : Explains which (before ++ piece) why
