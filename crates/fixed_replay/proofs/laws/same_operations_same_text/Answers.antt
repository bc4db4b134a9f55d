use Rattle.fixed_replay.proofs.SameText.{same_text}
use Rattle.fixed_replay.proofs.laws.same_operations_same_text.Goals as goal

pub returns : goal.returns
returns c = same_text
