use Rattle.alike_sites.proofs.Twins.{flat_sites}
use Rattle.alike_sites.proofs.laws.flat_sites_are_alike.Goals as goal

pub returns : goal.returns
returns c = flat_sites
