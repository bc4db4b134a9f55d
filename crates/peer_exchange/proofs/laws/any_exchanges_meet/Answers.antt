use Rattle.peer_exchange.proofs.BothSides.{any_exchanges_meet}
use Rattle.peer_exchange.proofs.laws.any_exchanges_meet.Goals as goal

pub returns : goal.returns
returns c = any_exchanges_meet
