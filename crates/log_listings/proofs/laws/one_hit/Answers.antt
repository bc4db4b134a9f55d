use Rattle.log_listings.proofs.Hitting.{one_hit}
use Rattle.log_listings.proofs.laws.one_hit.Goals as goal

pub returns : goal.returns
returns c = one_hit
