use Rattle.std.proofs.Common.{length}
use Rattle.session_log.proofs.Listings.{IsListing}
use Rattle.session_log.proofs.reading.read_into.Given as goal

-- the operations that were passed over are listed
abbrev pub invariant-loop-placed : goal.invariant-loop-placed
invariant-loop-placed l = IsListing l.bytes l.fn.out.items l.out.items l.left

abbrev pub decreases-loop-placed : goal.decreases-loop-placed
decreases-loop-placed l = length l.left.bytes
