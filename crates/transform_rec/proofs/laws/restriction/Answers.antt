use Rattle.transform_rec.proofs.LawsHold.{setting_by, restriction}
use Rattle.transform_rec.proofs.laws.restriction.Goals as goal

pub returns : goal.returns
returns g c = restriction (setting_by c.executes.ensures.table c.executes.ensures.family c.requires.own_names)
