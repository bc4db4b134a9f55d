use Rattle.std.proofs.Common.{◌∙◌, ◌++◌, List, sym, ap}
use Rattle.form_rows.proofs.Turns.{joined_more}
use Rattle.form_rows.proofs.blocks.copied.Goals as goal

pub loop-i-preserved : goal.loop-i-preserved
loop-i-preserved g c =
    c.in_ok-copy_to.ensures
    ∙ (ap (λ (l : List g.row.F.Denot). l ++ c.index-blocks-i.result) c.loop-i.invariant
    ∙ sym (joined_more c.args.blocks.now c.loop-i.i c.index-blocks-i.result c.loop-i-test.true c.index-blocks-i.is))
