use Rattle.char_marks.proofs.Growth.{fits_stay}
use Rattle.char_marks.proofs.laws.fit_marks_stay_fit.Goals as goal

pub returns : goal.returns
returns c = fits_stay
