use Rattle.char_marks.specs.Code.Painting.{AreTold}
use Rattle.char_marks.proofs.painting.combined.Given as goal

-- the values so far
abbrev pub invariant-loop-i : goal.invariant-loop-i
invariant-loop-i l = AreTold l.weights l.slopes l.hues l.i l.values.items
