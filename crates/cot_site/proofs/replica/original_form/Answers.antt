use Rattle.std.proofs.Common.{refl}
use Rattle.op_name.specs.declared.member.Member.TheVariants.{Original}
use Rattle.context_vector.specs.Contexts.{has}
use Rattle.cot_site.specs.Code.Replicas.{before_last}
use Rattle.cot_site.proofs.RowForms.{base_after, form_after_at, last_after, rows_after}
use Rattle.cot_site.proofs.replica.original_form.Goals as goal

pub executed_original-requires : goal.executed_original-requires
executed_original-requires c = (c.requires.next.before, c.requires.next.executed)

pub returns-then-knows_all-clause-form : goal.returns-then-knows_all-clause-form
returns-then-knows_all-clause-form c =
    let h = c.args.book.now.ops in
    let n = c.args.name.now in
    base_after h n (before_last h) c.args.forms.now c.args.rows.now c.base_of.result c.requires.next
    (λ y. c.requires.knows c.if-knows_all.true n y refl) c.base_of.ensures

pub returns-then-knows_all-clause-rows : goal.returns-then-knows_all-clause-rows
returns-then-knows_all-clause-rows c =
    let h = c.args.book.now.ops in
    rows_after h (Original c.args.name.now) (has (before_last h)) c.args.forms.now c.args.rows.now c.requires.next

pub note_found-requires-clause-last : goal.note_found-requires-clause-last
note_found-requires-clause-last c =
    let h = c.args.book.now.ops in
    last_after h (Original c.args.name.now) (has (before_last h)) c.args.forms.now c.args.rows.now c.requires.next

pub note_found-requires-clause-form : goal.note_found-requires-clause-form
note_found-requires-clause-form c =
    let h = c.args.book.now.ops in
    let n = c.requires.next in
    form_after_at h (Original c.args.name.now) (has (before_last h)) c.args.forms.now c.args.rows.now c.in-Ok.made.0 n
    (c.in-Ok.ensures.form n.before n.executed)

pub returns-in-Ok-clause-form : goal.returns-in-Ok-clause-form
returns-in-Ok-clause-form c =
    let h = c.args.book.now.ops in
    let n = c.requires.next in
    (form_after_at h (Original c.args.name.now) (has (before_last h)) c.args.forms.now c.args.rows.now c.in-Ok.made.0 n
    (c.in-Ok.ensures.form n.before n.executed)).0
