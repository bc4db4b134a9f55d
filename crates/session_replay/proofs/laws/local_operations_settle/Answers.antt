use Rattle.session_replay.proofs.Sound.{good_made}
use Rattle.session_replay.proofs.laws.local_operations_settle.Goals as goal

pub returns : goal.returns
returns c = λ d i o sound settled within next. (good_made d i o sound within next).settles settled
