use Rattle.peer_exchange.proofs.LackedTaken.{lacked_operations_are_taken}
use Rattle.peer_exchange.proofs.laws.lacked_operations_are_taken.Goals as goal

pub returns : goal.returns
returns c = lacked_operations_are_taken
