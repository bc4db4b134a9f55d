use Rattle.peer_exchange.proofs.OneThing.{messages_tell_one_thing}
use Rattle.peer_exchange.proofs.laws.messages_tell_one_thing.Goals as goal

pub returns : goal.returns
returns c = messages_tell_one_thing
