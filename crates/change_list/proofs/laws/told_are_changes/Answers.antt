use Rattle.change_list.proofs.Apart.{are_changes}
use Rattle.change_list.proofs.laws.told_are_changes.Goals as goal

pub returns : goal.returns
returns g c = are_changes
