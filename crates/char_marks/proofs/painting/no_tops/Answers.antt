use Rattle.char_marks.proofs.Painted.{one_none}
use Rattle.char_marks.proofs.painting.no_tops.Goals as goal

pub loop-i-preserved : goal.loop-i-preserved
loop-i-preserved c = one_none c.loop-i.i c.loop-i.tops.items _ c.loop-i.invariant c.in_ok-push.ensures.items
