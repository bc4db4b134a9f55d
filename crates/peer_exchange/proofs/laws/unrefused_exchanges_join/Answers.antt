use Rattle.peer_exchange.proofs.Unrefused.{unrefused_exchanges_join}
use Rattle.peer_exchange.proofs.laws.unrefused_exchanges_join.Goals as goal

pub returns : goal.returns
returns c = unrefused_exchanges_join
