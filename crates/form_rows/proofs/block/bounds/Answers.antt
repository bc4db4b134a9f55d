use Rattle.std.proofs.Common.{arith}
use Rattle.form_rows.proofs.Turns.{within_more}
use Rattle.form_rows.proofs.block.bounds.Goals as goal

pub loop-i-preserved : goal.loop-i-preserved
loop-i-preserved g c =
    within_more c.args.forms.now c.loop-i.i c.index-forms-i.result c.loop-i-test.true c.index-forms-i.is g.F.Include.place c.loop-i.low
    c.loop-i.high c.min-low.result c.max-high.result (omega (arith, c.min-low.ensures))
    (omega (arith, c.min-low.ensures, c.at-place.ensures)) (omega (arith, c.max-high.ensures))
    (omega (arith, c.max-high.ensures, c.at-place.ensures)) c.loop-i.invariant
