use Rattle.transform_rec.proofs.Forms.{derived_among}
use Rattle.transform_rec.proofs.laws.derivations_name_members.Goals as goal

pub returns : goal.returns
returns g c = derived_among g.F.Include.over
