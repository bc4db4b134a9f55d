use Rattle.transform_rec.proofs.SameHistories.{same_operations_same_form}
use Rattle.transform_rec.proofs.laws.same_operations_same_form.Goals as goal

pub returns : goal.returns
returns g c = same_operations_same_form g.F.Include.over
