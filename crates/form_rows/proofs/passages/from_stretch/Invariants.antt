use Rattle.std.proofs.Common.{◌*◌, ◌≤◌, drop, length}
use Rattle.ttf_form.specs.Forms.{form_over}
use Rattle.form_rows.specs.declared.passages.TheConstants.{STRETCH}
use Rattle.form_rows.specs.RowSets.{form_after}
use Rattle.form_rows.proofs.Thresholds.{IsMark}
use Rattle.form_rows.proofs.passages.from_stretch.Given as goal

-- the mark has come to the i-th stretch
abbrev pub invariant-loop-i : goal.invariant-loop-i
invariant-loop-i l =
    record {
      long : STRETCH * length l.over ≤ length l.executed;
      few : l.i
          ≤ length l.over;
      mark : IsMark (form_after form_over l.fn.near (drop (STRETCH * l.first) l.executed)) l.executed l.mark (STRETCH * l.i);
    }
