use Rattle.alike_sites.proofs.Twins.{sites_alike, other_sound}
use Rattle.alike_sites.proofs.Making.{view_same}
use Rattle.alike_sites.proofs.laws.alike_sites_show_the_same.Goals as goal

pub returns : goal.returns
returns c = λ h k s t a. (other_sound h k s t a, sites_alike h k s t a, view_same h k s t a)
