use Rattle.transform_rec.specs.Code.Pending.{IsWalk}
use Rattle.transform_rec.proofs.pending.go_back.Given as goal

abbrev pub invariant-loop-i : goal.invariant-loop-i
invariant-loop-i g l = IsWalk l.book.ops l.fn.at l.at l.rest.items l.i

abbrev pub decreases-loop-i : goal.decreases-loop-i
decreases-loop-i g l = l.i
