use Rattle.session_log.proofs.RoundTrips.{came_back}
use Rattle.session_log.proofs.laws.round_trip.Goals as goal

pub returns : goal.returns
returns c = came_back
