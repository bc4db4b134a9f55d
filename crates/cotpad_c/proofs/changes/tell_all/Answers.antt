use Rattle.cotpad_c.specs.Changes.{change_told}
use Rattle.cotpad_c.proofs.ToldInFront.{told_more}
use Rattle.cotpad_c.proofs.changes.tell_all.Goals as goal

pub loop-i-preserved : goal.loop-i-preserved
loop-i-preserved c =
    told_more change_told c.args.changes.now c.args.out.now c.loop-i.out c.loop-i.i _ c.change_told.result c.loop-i-test.true c.requires
    c.loop-i.invariant c.change_told.ensures
