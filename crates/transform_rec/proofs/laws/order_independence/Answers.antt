use Rattle.transform_rec.proofs.LawsHold.{setting_by, order_independent}
use Rattle.transform_rec.proofs.laws.order_independence.Goals as goal

pub returns : goal.returns
returns g c = order_independent (setting_by c.executes.ensures.table c.executes.ensures.family c.requires.own_names)
