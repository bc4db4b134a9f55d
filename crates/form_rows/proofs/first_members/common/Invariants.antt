use Rattle.std.proofs.Common.{◌≡◌, ◌≤◌, length, take}
use Rattle.context_vector.specs.Contexts.{count_of}
use Rattle.form_rows.specs.Lacking.{lacking}
use Rattle.form_rows.proofs.first_members.common.Given as goal

abbrev pub invariant-loop-lacked : goal.invariant-loop-lacked
invariant-loop-lacked l =
    record {
      within : l.i ≤ length l.book.ops;
      rest : l.lacked ≡ lacking (take l.i l.book.ops) l.context.set;
      count : l.count
          ≡ count_of l.context.set l.site;
    }

abbrev pub decreases-loop-lacked : goal.decreases-loop-lacked
decreases-loop-lacked l = l.i
