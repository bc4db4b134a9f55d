use Rattle.char_marks.proofs.Painted.{IsPartly}
use Rattle.char_marks.proofs.painting.paint.Given as goal

-- the cells so far were gone over
abbrev pub invariant-loop-i : goal.invariant-loop-i
invariant-loop-i l = IsPartly l.kind l.site.history l.raised.set.entries l.kept l.fn.tops l.initial.i l.i l.tops
