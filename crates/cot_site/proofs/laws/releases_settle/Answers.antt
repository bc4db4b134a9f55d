use Rattle.cot_site.proofs.Settling.{settled_settles}
use Rattle.cot_site.proofs.laws.releases_settle.Goals as goal

pub returns : goal.returns
returns c = λ s sound. settled_settles s sound
