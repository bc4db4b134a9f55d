use Rattle.cot_site.proofs.Settling.{settled_has_none, settled_stays}
use Rattle.cot_site.proofs.laws.settled_states_stay.Goals as goal

pub returns : goal.returns
returns c = λ s settles. (settled_has_none s settles, settled_stays s settles)
