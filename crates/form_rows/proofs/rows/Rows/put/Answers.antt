use Rattle.std.proofs.Common.{inl, inr}
use Rattle.form_rows.proofs.rows.Rows.put.Goals as goal

pub returns-clause-rows : goal.returns-clause-rows
returns-clause-rows g c k there =
    elim (c.keep.ensures.rows k there) [ inl left ↦ inl (c.make_way.ensures.left k left) | inr is ↦ inr is ]
