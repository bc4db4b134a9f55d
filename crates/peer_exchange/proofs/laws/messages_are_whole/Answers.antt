use Rattle.peer_exchange.proofs.Wholes.{messages_are_whole}
use Rattle.peer_exchange.proofs.laws.messages_are_whole.Goals as goal

pub returns : goal.returns
returns c = messages_are_whole
