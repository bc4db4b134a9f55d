use Rattle.peer_exchange.proofs.BothSides.{equal_members_are_alike}
use Rattle.peer_exchange.proofs.laws.equal_members_are_alike.Goals as goal

pub returns : goal.returns
returns c = equal_members_are_alike
