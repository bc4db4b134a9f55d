use Rattle.flat_history.proofs.Opening.{checkpoint_valid}
use Rattle.flat_history.proofs.laws.checkpoints_are_valid.Goals as goal

pub returns : goal.returns
returns c = checkpoint_valid
