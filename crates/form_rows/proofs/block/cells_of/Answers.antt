use Rattle.form_rows.proofs.Turns.{counted_more}
use Rattle.form_rows.proofs.block.cells_of.Goals as goal

pub loop-i-preserved : goal.loop-i-preserved
loop-i-preserved g c =
    counted_more c.args.forms.now c.loop-i.i c.index-forms-i.result c.loop-i-test.true c.index-forms-i.is g.F.Include.extent c.loop-i.cells
    c.cells.result c.saturating_add-cells.result c.cells.ensures c.saturating_add-cells.ensures c.loop-i.invariant
