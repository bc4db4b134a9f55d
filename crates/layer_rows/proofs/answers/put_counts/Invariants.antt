use Rattle.std.proofs.Common.{length}
use Rattle.layer_rows.proofs.answers.put_counts.Given as goal

abbrev pub decreases-loop-site : goal.decreases-loop-site
decreases-loop-site l = length l.left
