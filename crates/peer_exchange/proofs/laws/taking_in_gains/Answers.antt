use Rattle.peer_exchange.proofs.Gaining.{taking_in_gains}
use Rattle.peer_exchange.proofs.laws.taking_in_gains.Goals as goal

pub returns : goal.returns
returns c = taking_in_gains
