use Rattle.std.proofs.Common.{◌≡◌, ◌*◌, ◌≤◌, drop, length}
use Rattle.std.specs.Prelude.{fold}
use Rattle.ttf_form.specs.declared.include.TheConstants.{CELLS}
use Rattle.form_rows.specs.declared.passages.TheConstants.{STRETCH}
use Rattle.form_rows.specs.Stretches.{place_after}
use Rattle.form_rows.proofs.passages.moved_from_stretch.Given as goal

-- the place has come to the i-th stretch
abbrev pub invariant-loop-i : goal.invariant-loop-i
invariant-loop-i l =
    record {
      long : STRETCH * length l.over ≤ length l.executed;
      few : l.i
          ≤ length l.over;
      most : l.place ≤ CELLS;
      rest : fold place_after l.place (drop (STRETCH * l.i) l.executed) ≡ fold place_after l.fn.near (drop (STRETCH * l.first) l.executed);
    }
