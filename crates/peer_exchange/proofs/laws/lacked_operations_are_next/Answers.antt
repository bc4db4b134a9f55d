use Rattle.peer_exchange.proofs.ValidJoins.{lacked_operations_are_next}
use Rattle.peer_exchange.proofs.laws.lacked_operations_are_next.Goals as goal

pub returns : goal.returns
returns c = lacked_operations_are_next
