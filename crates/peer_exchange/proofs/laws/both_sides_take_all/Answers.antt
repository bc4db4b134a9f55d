use Rattle.peer_exchange.proofs.TakenOps.{both_sides_take_all}
use Rattle.peer_exchange.proofs.laws.both_sides_take_all.Goals as goal

pub returns : goal.returns
returns c = both_sides_take_all
