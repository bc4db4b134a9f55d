use Rattle.std.proofs.Common.{arith}
use Rattle.lane_rank.proofs.Columns.{ones_more}
use Rattle.lane_rank.proofs.ranks.select.Goals as goal

pub loop-at-preserved : goal.loop-at-preserved
loop-at-preserved c =
    let more = ones_more c.args.flags.now c.loop-at.at in
    let before = c.loop-at.invariant.1 in
    let low = c.loop-at.invariant.2 in
    let here = c.ones_in-here.ensures in
    let less = c.if-k-seen.false in
    (omega arith, omega arith, omega arith)
