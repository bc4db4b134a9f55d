use Rattle.peer_exchange.proofs.Exchanging.{unrefused_calls_join}
use Rattle.peer_exchange.proofs.laws.unrefused_calls_join.Goals as goal

pub returns : goal.returns
returns c = unrefused_calls_join
