-- The operations whose frames were passed over are taken in.
use Rattle.std.proofs.Common.{length}
use Rattle.cot_site.specs.Sites.{state_of}
use Rattle.peer_exchange.proofs.Receivings.{IsTaking}
use Rattle.peer_exchange.proofs.receiving.take_frames.Given as goal

abbrev pub invariant-loop-next : goal.invariant-loop-next
invariant-loop-next l = IsTaking (state_of l.fn.site) l.bytes l.left (state_of l.site) l.count

abbrev pub decreases-loop-next : goal.decreases-loop-next
decreases-loop-next l = length l.left
