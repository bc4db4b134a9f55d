use Rattle.flat_history.proofs.Flat.{has_checkpoint}
use Rattle.flat_history.proofs.laws.histories_have_checkpoints.Goals as goal

pub returns : goal.returns
returns c = λ h fs v df room. has_checkpoint h fs v df room
