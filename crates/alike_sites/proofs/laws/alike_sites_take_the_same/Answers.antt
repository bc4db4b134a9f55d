use Rattle.alike_sites.proofs.Twins.{judged_same, delivered_alike}
use Rattle.alike_sites.proofs.laws.alike_sites_take_the_same.Goals as goal

pub returns : goal.returns
returns c = λ h k s t o a formed is. (judged_same h k s t a o formed is, delivered_alike h k s t a o formed is)
