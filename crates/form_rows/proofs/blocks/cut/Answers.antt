use Rattle.std.proofs.Common.{arith}
use Rattle.form_rows.proofs.Turns.{cut_more}
use Rattle.form_rows.proofs.blocks.cut.Goals as goal

pub loop-i-preserved : goal.loop-i-preserved
loop-i-preserved g c = record {
  within = omega (arith, c.at_most-size.ensures.bound, c.loop-i-test.true);
  made = cut_more c.args.forms.now c.loop-i.i c.at_most-size.result c.loop-i.blocks.items c.push.new.blocks.items c.in_ok-block.block
      c.in_ok-block.ensures c.in_ok-push.ensures c.loop-i.invariant.made;
}
