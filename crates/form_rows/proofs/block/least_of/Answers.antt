use Rattle.form_rows.proofs.Turns.{from_more}
use Rattle.form_rows.proofs.block.least_of.Goals as goal

pub loop-i-preserved : goal.loop-i-preserved
loop-i-preserved g c =
    from_more c.args.forms.now c.loop-i.i c.index-forms-i.result c.loop-i-test.true c.index-forms-i.is g.F.Named.named c.args.site
    c.loop-i.least c.least_with-least.result
    c.least_with-least.ensures.low c.least_with-least.ensures.name c.loop-i.invariant
