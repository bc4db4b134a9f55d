use Rattle.fixed_replay.proofs.ValidOriginals.{told_apart}
use Rattle.fixed_replay.proofs.laws.originals_are_told_apart.Goals as goal

pub returns : goal.returns
returns c = told_apart
