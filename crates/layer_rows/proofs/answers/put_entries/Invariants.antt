use Rattle.std.proofs.Common.{length}
use Rattle.layer_rows.proofs.answers.put_entries.Given as goal

abbrev pub decreases-loop-name : goal.decreases-loop-name
decreases-loop-name l = length l.left
