use Rattle.std.proofs.Common.{◌≡◌, ◌+◌, List, []}
use Rattle.ttf_form.specs.Families.{total_by}
use Rattle.form_rows.proofs.Looks.{IsAdding}
use Rattle.form_rows.proofs.row.are_at_most.Given as goal

-- those so far
abbrev pub invariant-loop-i : goal.invariant-loop-i
invariant-loop-i g l =
    record {
      added : (now : List g.row.F.Denot) × IsAdding g.F.Include.IsInert l.forms l.from [] l.i now
          × (l.left + total_by g.F.Include.extent now ≡ l.fn.most);
    }
