use Rattle.std.proofs.Common.{◌≤◌, ℕ, subst}
use Rattle.form_rows.proofs.Choices.{first_members_row}
use Rattle.form_rows.proofs.rows.Rows.first_row.Goals as goal

pub returns-clause-row : goal.returns-clause-row
returns-clause-row g c =
    first_members_row c.args.book.now.ops c.args.context.now.set c.args.executed c.in_ok-firsts.firsts.upto c.row_of_first.result
    c.row_of_first.ensures.forms (subst (λ (k : ℕ). c.row_of_first.result.upto ≤ k) c.upto.ensures c.row_of_first.ensures.low)
    c.row_of_first.ensures.bound c.in_ok-firsts.ensures.has
