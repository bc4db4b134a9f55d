use Rattle.std.proofs.Common.{arith}
use Rattle.past_view.specs.Code.Counted.{counts}
use Rattle.past_view.proofs.Counts.{count_more}
use Rattle.past_view.proofs.counted.nth.Goals as goal

pub loop-at-preserved : goal.loop-at-preserved
loop-at-preserved c =
    let more = count_more (counts c.args.counted) c.args.bytes.now c.loop-at.at 1024 in
    let before = c.loop-at.invariant.1 in
    let low = c.loop-at.invariant.2 in
    let here = c.count-here.ensures in
    let less = c.if-k-seen.false in
    (omega arith, omega arith, omega arith)
