use Rattle.transform_rec.proofs.LawsHold.{setting_by, one_more_member}
use Rattle.transform_rec.proofs.laws.one_more_member.Goals as goal

pub returns : goal.returns
returns g c = one_more_member (setting_by c.executes.ensures.table c.executes.ensures.family c.requires.own_names) c.requires.at_place
