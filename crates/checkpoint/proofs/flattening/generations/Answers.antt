use Rattle.std.proofs.Common.{arith}
use Rattle.checkpoint.proofs.Sums.{first_in_sum, sum_bounded}
use Rattle.checkpoint.proofs.flattening.generations.Goals as goal

pub overflow_add-sum : goal.overflow_add-sum
overflow_add-sum c =
    let one = first_in_sum c.loop-generation.left (c.in-Some.field-0-0, c.in-Some.generation) c.in-Some.ensures.first in
    let all = sum_bounded c.args.members.now.set.entries c.known.ensures.entries in
    let so_far = c.loop-generation.invariant in
    let few = c.requires in
    let same = c.from-sum.ensures in
    omega (arith, one, all, so_far, few, same)
