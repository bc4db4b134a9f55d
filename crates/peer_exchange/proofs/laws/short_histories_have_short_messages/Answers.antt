use Rattle.peer_exchange.proofs.Lengths.{short_histories_have_short_messages}
use Rattle.peer_exchange.proofs.laws.short_histories_have_short_messages.Goals as goal

pub returns : goal.returns
returns c = short_histories_have_short_messages
