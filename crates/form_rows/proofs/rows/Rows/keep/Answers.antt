use Rattle.std.proofs.Common.{◌≡◌, ◌⊎◌, Contains, subst}
use Rattle.form_rows.specs.Kept.{RowsData}
use Rattle.form_rows.proofs.rows.Rows.keep.Goals as goal

pub returns-then-may_come-clause-rows : goal.returns-then-may_come-clause-rows
returns-then-may_come-clause-rows g c k there =
    subst (λ (r : RowsData g.row.F.Denot). Contains r.rows k ⊎ (c.args.row ≡ k)) c.self.view_is
    (c.forms_with-self-inside.ensures.rows k there)
