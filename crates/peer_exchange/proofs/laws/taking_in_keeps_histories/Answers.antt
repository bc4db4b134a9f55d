use Rattle.peer_exchange.proofs.Later.{taking_in_keeps_histories}
use Rattle.peer_exchange.proofs.laws.taking_in_keeps_histories.Goals as goal

pub returns : goal.returns
returns c = taking_in_keeps_histories
