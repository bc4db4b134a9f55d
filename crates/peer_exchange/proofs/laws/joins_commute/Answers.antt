use Rattle.peer_exchange.proofs.BothSides.{joins_commute}
use Rattle.peer_exchange.proofs.laws.joins_commute.Goals as goal

pub returns : goal.returns
returns c = joins_commute
