use Rattle.transform_rec.proofs.Keeping.{no_entries}
use Rattle.transform_rec.proofs.laws.no_entries_are_forms.Goals as goal

pub returns : goal.returns
returns g c = no_entries g.F.Include.over
