use Rattle.cot_site.proofs.FirstReleases.{exact_release}
use Rattle.cot_site.proofs.laws.releases_are_exact.Goals as goal

pub returns : goal.returns
returns c = λ s r sound. exact_release s sound r
