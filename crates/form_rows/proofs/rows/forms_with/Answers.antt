use Rattle.std.proofs.Common.{◌∙◌, length, sym, ap}
use Rattle.form_rows.specs.declared.rows.AuthorRow.{AuthorRow}
use Rattle.form_rows.proofs.Entries.{rows_with, forms_with_other, forms_with_one}
use Rattle.form_rows.proofs.rows.forms_with.Goals as goal

pub overflow_sub-result : goal.overflow_sub-result
overflow_sub-result g c =
    (forms_with_other _ _ c.args.row c.args.kept.now.entries c.insert.new.self.entries c.in-Ok-Some.old c.in-Ok-Some.ensures.entries
    (sym c.in-Ok-Some.field-0-is ∙ c.in-Ok-Some.ensures.old) c.args.forms c.len.result c.len-in-Ok-Some.result c.requires.forms
    (c.len.ensures ∙ ap (λ (r : AuthorRow g.row.F.Denot). length r.row.forms) c.row.view_is) c.len-in-Ok-Some.ensures).0

pub returns-in-Ok-Some-clause-rows : goal.returns-in-Ok-Some-clause-rows
returns-in-Ok-Some-clause-rows g c = rows_with _ _ c.args.row c.args.kept.now.entries c.insert.new.self.entries c.in-Ok-Some.ensures.entries

pub returns-in-Ok-Some-clause-forms : goal.returns-in-Ok-Some-clause-forms
returns-in-Ok-Some-clause-forms g c =
    (forms_with_other _ _ c.args.row c.args.kept.now.entries c.insert.new.self.entries c.in-Ok-Some.old c.in-Ok-Some.ensures.entries
    (sym c.in-Ok-Some.field-0-is ∙ c.in-Ok-Some.ensures.old) c.args.forms c.len.result c.len-in-Ok-Some.result c.requires.forms
    (c.len.ensures ∙ ap (λ (r : AuthorRow g.row.F.Denot). length r.row.forms) c.row.view_is) c.len-in-Ok-Some.ensures).1

pub returns-in-Ok-None-clause-rows : goal.returns-in-Ok-None-clause-rows
returns-in-Ok-None-clause-rows g c = rows_with _ _ c.args.row c.args.kept.now.entries c.insert.new.self.entries c.in-Ok-None.ensures.entries

pub returns-in-Ok-None-clause-forms : goal.returns-in-Ok-None-clause-forms
returns-in-Ok-None-clause-forms g c =
    forms_with_one _ _ c.args.row c.args.kept.now.entries c.insert.new.self.entries c.in-Ok-None.ensures.entries
    (sym c.in-Ok-None.field-0-is ∙ c.in-Ok-None.ensures.old) c.args.forms c.len.result c.requires.forms
    (c.len.ensures ∙ ap (λ (r : AuthorRow g.row.F.Denot). length r.row.forms) c.row.view_is)
