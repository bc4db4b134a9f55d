use Rattle.peer_exchange.proofs.Gaining.{editing_meanwhile_loses_nothing}
use Rattle.peer_exchange.proofs.laws.editing_meanwhile_loses_nothing.Goals as goal

pub returns : goal.returns
returns c = editing_meanwhile_loses_nothing
