-- The message was judged to the place.
use Rattle.std.proofs.Common.{length, ◌-◌}
use Rattle.peer_exchange.specs.Code.Places.{Stands}
use Rattle.peer_exchange.proofs.measuring.go_on.Given as goal

abbrev pub invariant-loop-next : goal.invariant-loop-next
invariant-loop-next l = Stands l.fn.which l.bytes l.place

abbrev pub decreases-loop-next : goal.decreases-loop-next
decreases-loop-next l = length l.bytes - l.place.at
