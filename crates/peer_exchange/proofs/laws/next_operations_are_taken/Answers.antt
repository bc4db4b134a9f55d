use Rattle.peer_exchange.proofs.TakenOps.{next_operations_are_taken}
use Rattle.peer_exchange.proofs.laws.next_operations_are_taken.Goals as goal

pub returns : goal.returns
returns c = next_operations_are_taken
