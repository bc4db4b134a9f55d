use Rattle.std.proofs.Common.{Contains, subst}
use Rattle.form_rows.specs.Kept.{RowsData}
use Rattle.form_rows.proofs.rows.Rows.take.Goals as goal

pub returns-in-Some-clause-left : goal.returns-in-Some-clause-left
returns-in-Some-clause-left g c k there =
    subst (λ (r : RowsData g.row.F.Denot). Contains r.rows k) c.self.view_is (c.taken.ensures.left k there)
