use Rattle.std.proofs.Common.{arith}
use Rattle.touched_cells.proofs.Spots.{ones_parts}
use Rattle.touched_cells.proofs.looking.ones_before.Goals as goal

pub overflow_sub-result : goal.overflow_sub-result
overflow_sub-result c = omega (arith, c.requires.all, c.ones.ensures, ones_parts c.args.flags.now c.args.at)

pub returns-else-at-behind : goal.returns-else-at-behind
returns-else-at-behind c = omega (arith, c.requires.all, c.ones.ensures, ones_parts c.args.flags.now c.args.at)
