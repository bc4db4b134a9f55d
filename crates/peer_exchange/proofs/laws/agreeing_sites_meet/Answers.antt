use Rattle.peer_exchange.proofs.Exchanging.{agreeing_sites_meet}
use Rattle.peer_exchange.proofs.laws.agreeing_sites_meet.Goals as goal

pub returns : goal.returns
returns c = agreeing_sites_meet
