use Rattle.std.proofs.Common.{◌≡◌, false}
use Rattle.form_rows.specs.Names.{had_by}
use Rattle.form_rows.proofs.Turns.{joined_each}
use Rattle.form_rows.proofs.blocks.none_in.Goals as goal

pub loop-i-preserved : goal.loop-i-preserved
loop-i-preserved g c =
    joined_each (λ (f : g.row.F.Denot). had_by g.F.Named.named c.args.context.now.set f ≡ false) c.args.blocks.now c.loop-i.i
    c.index-blocks-i.result c.loop-i-test.true c.index-blocks-i.is c.loop-i.invariant
    (c.has_none.ensures c.if-not-has_none.false)
