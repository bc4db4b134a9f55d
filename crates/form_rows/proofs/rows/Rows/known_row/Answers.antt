use Rattle.std.proofs.Common.{◌≤◌, ℕ, length, subst}
use Rattle.form_rows.proofs.Choices.{first_members_row}
use Rattle.form_rows.proofs.rows.Rows.known_row.Goals as goal

pub returns-then-has_inserts : goal.returns-then-has_inserts
returns-then-has_inserts g c =
    first_members_row c.args.book.now.ops c.args.context.now.set (length c.args.executed.now) c.in_ok-firsts.firsts.upto
    c.row_of_first.result c.row_of_first.ensures.forms
    (subst (λ (k : ℕ). c.row_of_first.result.upto ≤ k) c.upto-upto.ensures c.row_of_first.ensures.low) c.row_of_first.ensures.bound
    (c.has_inserts.ensures c.if-has_inserts.true)
