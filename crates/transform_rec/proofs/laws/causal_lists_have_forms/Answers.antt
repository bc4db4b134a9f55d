use Rattle.transform_rec.proofs.LawsHold.{deriving_by, lists_have_forms}
use Rattle.transform_rec.proofs.laws.causal_lists_have_forms.Goals as goal

pub returns : goal.returns
returns g c = lists_have_forms (deriving_by c.derives.ensures.inclusion c.derives.ensures.family)
