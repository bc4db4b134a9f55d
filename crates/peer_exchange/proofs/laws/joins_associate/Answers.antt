use Rattle.peer_exchange.proofs.BothSides.{joins_associate}
use Rattle.peer_exchange.proofs.laws.joins_associate.Goals as goal

pub returns : goal.returns
returns c = joins_associate
