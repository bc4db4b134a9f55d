use Rattle.form_rows.proofs.Turns.{IsShifting}
use Rattle.form_rows.proofs.block.shift_all.Given as goal

abbrev pub invariant-loop-x : goal.invariant-loop-x
invariant-loop-x g l = IsShifting g.F.Include.place g.F.Placed.shifted l.by l.fn.forms l.x-index l.forms
