use Rattle.log_listings.proofs.SameBytes.{same_operations_same_bytes}
use Rattle.log_listings.proofs.laws.same_operations_same_bytes.Goals as goal

pub returns : goal.returns
returns c = same_operations_same_bytes
