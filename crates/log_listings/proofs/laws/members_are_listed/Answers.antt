use Rattle.log_listings.proofs.Members.{members_are_listed}
use Rattle.log_listings.proofs.laws.members_are_listed.Goals as goal

pub returns : goal.returns
returns c = members_are_listed
