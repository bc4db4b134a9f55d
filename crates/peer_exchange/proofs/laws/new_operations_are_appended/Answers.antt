use Rattle.peer_exchange.proofs.TakenOps.{new_operations_are_appended}
use Rattle.peer_exchange.proofs.laws.new_operations_are_appended.Goals as goal

pub returns : goal.returns
returns c = new_operations_are_appended
