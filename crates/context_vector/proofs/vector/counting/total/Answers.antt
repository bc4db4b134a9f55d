use Rattle.std.proofs.Common.{sym, arith}
use Rattle.context_vector.specs.Code.Readers.{left_of}
use Rattle.context_vector.proofs.Counts.{sum_at_most}
use Rattle.context_vector.proofs.Counting.{sum_first}
use Rattle.context_vector.proofs.vector.counting.total.Goals as goal

pub overflow_add-sum : goal.overflow_add-sum
overflow_add-sum c =
    let first = sum_first (left_of c.loop-count.left) c.in-Some.count (sym c.in-Some.ensures.first) in
    let most = sum_at_most 0 (left_of c.args.counts) (omega arith) c.requires in
    record { fits = omega (arith, c.loop-count.invariant, c.number-sum.ensures, first, most) }

pub returns-clause-range : goal.returns-clause-range
returns-clause-range c = omega (arith, c.loop-count.invariant, sum_at_most 0 (left_of c.args.counts) (omega arith) c.requires)
