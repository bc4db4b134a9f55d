use Rattle.char_marks.proofs.SameValues.{same_values}
use Rattle.char_marks.proofs.laws.same_operations_same_values.Goals as goal

pub returns : goal.returns
returns c = same_values
