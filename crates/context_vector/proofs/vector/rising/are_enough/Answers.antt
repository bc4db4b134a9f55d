use Rattle.std.proofs.Common.{arith}
use Rattle.context_vector.proofs.Counting.{enough_at}
use Rattle.context_vector.proofs.vector.rising.are_enough.Goals as goal

pub returns : goal.returns
returns c sure =
    enough_at c.args.mine.now c.args.theirs.now (omega (arith, c.if-mine-theirs.false)) (λ i d within.
    c.loop-i.invariant sure i d (omega (arith, within, c.loop-i-test.false, c.if-mine-theirs.false)))
