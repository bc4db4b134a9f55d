use Rattle.peer_exchange.proofs.Exchanging.{second_exchanges_are_empty}
use Rattle.peer_exchange.proofs.laws.second_exchanges_are_empty.Goals as goal

pub returns : goal.returns
returns c = second_exchanges_are_empty
