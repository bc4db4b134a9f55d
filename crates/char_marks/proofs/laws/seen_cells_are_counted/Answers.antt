use Rattle.char_marks.proofs.SeenCounts.{seen_counted}
use Rattle.char_marks.proofs.laws.seen_cells_are_counted.Goals as goal

pub returns : goal.returns
returns c = seen_counted
