use Rattle.std.proofs.Common.{arith}
use Rattle.lane_rank.proofs.Columns.{count_more}
use Rattle.lane_rank.specs.Texts.{is_newline}
use Rattle.lane_rank.proofs.texts.newlines.Goals as goal

pub loop-at-preserved : goal.loop-at-preserved
loop-at-preserved c =
    let more = count_more is_newline c.args.bytes.now c.loop-at.at in
    let before = c.loop-at.invariant.1 in
    let here = c.newlines_in-total.ensures in
    (omega arith, omega arith)
