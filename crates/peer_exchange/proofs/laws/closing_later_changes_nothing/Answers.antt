use Rattle.peer_exchange.proofs.ClosingAgain.{closing_later_changes_nothing}
use Rattle.peer_exchange.proofs.laws.closing_later_changes_nothing.Goals as goal

pub returns : goal.returns
returns c = closing_later_changes_nothing
