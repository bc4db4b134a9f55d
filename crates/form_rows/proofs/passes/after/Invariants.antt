use Rattle.std.proofs.Common.{◌≡◌, drop}
use Rattle.form_rows.specs.RowSets.{form_after, AfterFits}
use Rattle.form_rows.proofs.passes.after.Given as goal

abbrev pub invariant-loop-i : goal.invariant-loop-i
invariant-loop-i g l =
    record {
      fits : AfterFits g.F.Include.over g.F.Include.place g.F.Include.extent l.f (drop l.i l.row);
      form : form_after g.F.Include.over
          l.f (drop l.i l.row) ≡ form_after g.F.Include.over l.fn.form (drop l.from l.row);
    }
