use Rattle.std.proofs.Common.{◌≤◌, ◌+◌, ◌-◌, length, vec_len, vec_capacity}
use Rattle.form_rows.proofs.Looks.{IsAdding}
use Rattle.form_rows.proofs.row.collect_kept.Given as goal

abbrev pub invariant-loop-i : goal.invariant-loop-i
invariant-loop-i g l =
    record {
      within : l.i ≤ length l.forms;
      room : vec_len l.out + (length l.forms - l.i)
          ≤ vec_capacity l.out;
      added : IsAdding g.F.Include.IsInert l.forms l.from l.fn.out.items l.i l.out.items;
    }
