use Rattle.session_replay.proofs.Alone.{sites_stay_alone}
use Rattle.session_replay.proofs.laws.sites_stay_alone.Goals as goal

pub returns : goal.returns
returns c = sites_stay_alone
