use Rattle.char_marks.proofs.Growth.{covered_stays}
use Rattle.char_marks.proofs.laws.covered_cells_stay.Goals as goal

pub returns : goal.returns
returns c = covered_stays
