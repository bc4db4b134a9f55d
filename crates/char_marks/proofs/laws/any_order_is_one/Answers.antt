use Rattle.char_marks.proofs.Runs.{any_order}
use Rattle.char_marks.proofs.laws.any_order_is_one.Goals as goal

pub returns : goal.returns
returns c = any_order
