use Rattle.transform_rec.proofs.LawsHold.{setting_by, swap_neighbours}
use Rattle.transform_rec.proofs.laws.swap.Goals as goal

pub returns : goal.returns
returns g c = swap_neighbours (setting_by c.executes.ensures.table c.executes.ensures.family c.requires.own_names)
