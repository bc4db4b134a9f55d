use Rattle.peer_exchange.proofs.NotRefused.{agreeing_sites_are_not_refused}
use Rattle.peer_exchange.proofs.laws.agreeing_sites_are_not_refused.Goals as goal

pub returns : goal.returns
returns c = agreeing_sites_are_not_refused
