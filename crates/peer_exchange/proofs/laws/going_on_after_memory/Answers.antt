use Rattle.peer_exchange.proofs.GoingOn.{going_on_after_memory}
use Rattle.peer_exchange.proofs.laws.going_on_after_memory.Goals as goal

pub returns : goal.returns
returns c = going_on_after_memory
