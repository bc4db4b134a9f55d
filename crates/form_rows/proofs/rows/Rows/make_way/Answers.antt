use Rattle.std.proofs.Common.{Contains, subst}
use Rattle.form_rows.specs.Kept.{RowsData}
use Rattle.form_rows.proofs.rows.Rows.make_way.Goals as goal

pub returns-then-is_past-clause-left : goal.returns-then-is_past-clause-left
returns-then-is_past-clause-left g c k there =
    c.drop_spare.ensures.left k (subst (λ (r : RowsData g.row.F.Denot). Contains r.rows k) c.note_spare.ensures there)
