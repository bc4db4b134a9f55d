use Rattle.session_replay.specs.Soundness.{IsSound}
use Rattle.session_replay.proofs.Every.{every_reached}
use Rattle.session_replay.proofs.LineLaws.{line_lasts}
use Rattle.session_replay.proofs.laws.sessions_stay_sound.Goals as goal

pub returns : goal.returns
returns c =
    λ d reached line es sound range is reach. every_reached IsSound d reached es sound (line_lasts line d es sound range is).all reach
