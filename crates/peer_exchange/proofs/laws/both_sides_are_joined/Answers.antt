use Rattle.peer_exchange.proofs.BothSides.{both_sides_are_joined}
use Rattle.peer_exchange.proofs.laws.both_sides_are_joined.Goals as goal

pub returns : goal.returns
returns c = both_sides_are_joined
