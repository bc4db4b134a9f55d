use Rattle.std.proofs.Common.{take}
use Rattle.char_marks.specs.Code.Painting.{ArePainted}
use Rattle.char_marks.proofs.painting.paint_all.Given as goal

-- the marks so far count
abbrev pub invariant-loop-kept : goal.invariant-loop-kept
invariant-loop-kept l = ArePainted l.kind l.site.history l.raised.set.entries (take l.kept-index l.marks) l.tops
