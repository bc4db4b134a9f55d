use Rattle.std.proofs.Common.{arith}
use Rattle.lane_rank.proofs.Columns.{ones_more}
use Rattle.lane_rank.proofs.ranks.ones.Goals as goal

pub loop-at-preserved : goal.loop-at-preserved
loop-at-preserved c =
    let more = ones_more c.args.flags.now c.loop-at.at in
    let before = c.loop-at.invariant.1 in
    let here = c.ones_in-total.ensures in
    (omega arith, omega arith)
