use Rattle.session_log.proofs.Frames.{one_log}
use Rattle.session_log.proofs.laws.one_reading.Goals as goal

pub returns : goal.returns
returns c = one_log
