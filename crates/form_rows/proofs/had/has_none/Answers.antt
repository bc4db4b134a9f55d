use Rattle.std.proofs.Common.{sym, ◌∙◌}
use Rattle.form_rows.specs.Names.{had_by}
use Rattle.form_rows.proofs.Takes.{none_more}
use Rattle.form_rows.proofs.had.has_none.Goals as goal

pub loop-i-preserved : goal.loop-i-preserved
loop-i-preserved g c = record {
  out = none_more (had_by g.F.Named.named c.args.context.now.set) c.args.row.now c.loop-i.i c.index-row-i.result c.loop-i-test.true
      c.index-row-i.is (sym c.is_counted.ensures.had ∙ c.if-is_counted.false) c.loop-i.invariant.out;
  count = c.is_counted.ensures.count;
}
