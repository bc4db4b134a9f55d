use Rattle.cot_site.proofs.FirstReleases.{none_is_ready}
use Rattle.cot_site.proofs.laws.settled_states_have_none_ready.Goals as goal

pub returns : goal.returns
returns c = λ s sound. none_is_ready s sound
