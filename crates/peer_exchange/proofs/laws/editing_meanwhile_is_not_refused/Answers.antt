use Rattle.peer_exchange.proofs.NotRefused.{editing_meanwhile_is_not_refused}
use Rattle.peer_exchange.proofs.laws.editing_meanwhile_is_not_refused.Goals as goal

pub returns : goal.returns
returns c = editing_meanwhile_is_not_refused
