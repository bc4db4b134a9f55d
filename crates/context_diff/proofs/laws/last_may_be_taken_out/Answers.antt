use Rattle.context_diff.proofs.Differences.{last_may_be_taken_out}
use Rattle.context_diff.proofs.laws.last_may_be_taken_out.Goals as goal

pub returns : goal.returns
returns c = last_may_be_taken_out
