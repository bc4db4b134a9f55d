use Rattle.char_marks.specs.Code.Painting.{AreNone}
use Rattle.char_marks.proofs.painting.no_tops.Given as goal

-- so many so far
abbrev pub invariant-loop-i : goal.invariant-loop-i
invariant-loop-i l = AreNone l.i l.tops.items
