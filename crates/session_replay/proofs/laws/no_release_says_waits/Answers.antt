use Rattle.session_replay.proofs.LineLaws.{line_lasts}
use Rattle.session_replay.proofs.laws.no_release_says_waits.Goals as goal

pub returns : goal.returns
returns c = λ d line es e sound values is at. (line_lasts line d es sound values is).quiet c.no_release_waits.ensures e at
