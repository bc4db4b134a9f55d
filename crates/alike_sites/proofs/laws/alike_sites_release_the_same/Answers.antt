use Rattle.alike_sites.proofs.Twins.{one_release}
use Rattle.alike_sites.proofs.laws.alike_sites_release_the_same.Goals as goal

pub returns : goal.returns
returns c = λ h k s t a. one_release h k s t a
