use Rattle.std.proofs.Common.{sym}
use Rattle.form_rows.proofs.Entries.{without_row}
use Rattle.form_rows.proofs.rows.taken.Goals as goal

pub returns-in-Some-swap_remove_index-clause-found : goal.returns-in-Some-swap_remove_index-clause-found
returns-in-Some-swap_remove_index-clause-found g c =
    (without_row c.args.kept.now.entries c.swap_remove_index.new.self.entries c.in-Some.i
    (c.in-Some-swap_remove_index.field-0-0, c.in-Some-swap_remove_index.own) (sym c.in-Some-swap_remove_index.ensures.entry)
    c.in-Some-swap_remove_index.ensures.entries).found

pub returns-in-Some-swap_remove_index-clause-left : goal.returns-in-Some-swap_remove_index-clause-left
returns-in-Some-swap_remove_index-clause-left g c =
    (without_row c.args.kept.now.entries c.swap_remove_index.new.self.entries c.in-Some.i
    (c.in-Some-swap_remove_index.field-0-0, c.in-Some-swap_remove_index.own) (sym c.in-Some-swap_remove_index.ensures.entry)
    c.in-Some-swap_remove_index.ensures.entries).left

pub returns-in-Some-swap_remove_index-clause-forms : goal.returns-in-Some-swap_remove_index-clause-forms
returns-in-Some-swap_remove_index-clause-forms g c =
    (without_row c.args.kept.now.entries c.swap_remove_index.new.self.entries c.in-Some.i
    (c.in-Some-swap_remove_index.field-0-0, c.in-Some-swap_remove_index.own) (sym c.in-Some-swap_remove_index.ensures.entry)
    c.in-Some-swap_remove_index.ensures.entries).forms
