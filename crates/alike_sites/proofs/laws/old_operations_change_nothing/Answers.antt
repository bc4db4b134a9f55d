use Rattle.alike_sites.proofs.Repeats.{old_unchanged}
use Rattle.alike_sites.proofs.laws.old_operations_change_nothing.Goals as goal

pub returns : goal.returns
returns c = λ s o sound formed known. old_unchanged s o sound known formed
