use Rattle.site_ranges.proofs.Undoers.{one_last}
use Rattle.site_ranges.proofs.laws.last_undoers_are_one.Goals as goal

pub returns : goal.returns
returns c = one_last
