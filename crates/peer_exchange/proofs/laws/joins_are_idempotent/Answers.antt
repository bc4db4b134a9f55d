use Rattle.peer_exchange.proofs.BothSides.{joins_are_idempotent}
use Rattle.peer_exchange.proofs.laws.joins_are_idempotent.Goals as goal

pub returns : goal.returns
returns c = joins_are_idempotent
