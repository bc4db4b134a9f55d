use Rattle.peer_exchange.proofs.ValidJoins.{joined_is_valid}
use Rattle.peer_exchange.proofs.laws.joins_are_valid.Goals as goal

pub returns : goal.returns
returns c = joined_is_valid
