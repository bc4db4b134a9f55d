use Rattle.flat_history.proofs.Flat.{flat_valid, flat_alike}
use Rattle.flat_history.proofs.laws.flat_is_alike.Goals as goal

pub returns : goal.returns
returns c = λ h fs v df room. (flat_valid h fs v df room, flat_alike h fs v df room)
