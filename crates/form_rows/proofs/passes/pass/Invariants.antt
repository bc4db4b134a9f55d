use Rattle.form_rows.proofs.Codes.{IsPassing}
use Rattle.form_rows.proofs.passes.pass.Given as goal

abbrev pub invariant-loop-x : goal.invariant-loop-x
invariant-loop-x g l = IsPassing g.F.Include.over g.F.Include.place g.F.Include.extent l.fn.form l.fn.row l.f l.x-index l.row
