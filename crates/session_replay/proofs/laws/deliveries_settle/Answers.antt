use Rattle.session_replay.proofs.Sound.{good_given}
use Rattle.session_replay.proofs.laws.deliveries_settle.Goals as goal

pub returns : goal.returns
returns c = λ d many i o sound settled within formed. (good_given many d i o sound within formed).settles settled
