use Rattle.transform_rec.proofs.Keeping.{next_keeps}
use Rattle.transform_rec.proofs.laws.next_operation_keeps_forms.Goals as goal

pub returns : goal.returns
returns g c = next_keeps g.F.Include.over
