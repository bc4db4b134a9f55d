use Rattle.std.proofs.Common.{◌≡◌, ◌≤◌, length, take}
use Rattle.form_rows.specs.RowSets.{front_of}
use Rattle.form_rows.proofs.passes.front.Given as goal

abbrev pub invariant-loop-i : goal.invariant-loop-i
invariant-loop-i g l =
    record {
      within : l.i ≤ length l.row;
      form : front_of g.F.Exclude.back l.f (take l.i l.row)
          ≡ front_of g.F.Exclude.back l.fn.form l.row;
    }

abbrev pub decreases-loop-i : goal.decreases-loop-i
decreases-loop-i g l = l.i
