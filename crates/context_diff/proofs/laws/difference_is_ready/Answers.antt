use Rattle.context_diff.proofs.Ready.{difference_is_ready}
use Rattle.context_diff.proofs.laws.difference_is_ready.Goals as goal

pub returns : goal.returns
returns c = difference_is_ready
