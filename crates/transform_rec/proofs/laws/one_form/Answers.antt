use Rattle.transform_rec.proofs.LawsHold.{deriving_by, one_form}
use Rattle.transform_rec.proofs.laws.one_form.Goals as goal

pub returns : goal.returns
returns g c = one_form (deriving_by c.derives.ensures.inclusion c.derives.ensures.family)
