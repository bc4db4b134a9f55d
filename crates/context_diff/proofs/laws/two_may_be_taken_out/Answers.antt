use Rattle.context_diff.proofs.Differences.{two_may_be_taken_out}
use Rattle.context_diff.proofs.laws.two_may_be_taken_out.Goals as goal

pub returns : goal.returns
returns c = two_may_be_taken_out
