use Rattle.transform_rec.proofs.LawsHold.{setting_by, to_the_front}
use Rattle.transform_rec.proofs.laws.to_the_front.Goals as goal

pub returns : goal.returns
returns g c = to_the_front (setting_by c.executes.ensures.table c.executes.ensures.family c.requires.own_names)
