use Rattle.std.proofs.Common.{◌≡◌, ◌∙◌, ◌++◌, ◌∷◌, [], true, Bool, ap, sym, subst}
use Rattle.std.specs.Prelude.{IfOk}
use Rattle.op_name.specs.declared.member.Member.{Member}
use Rattle.context_vector.specs.Contexts.{has}
use Rattle.context_diff.specs.Histories.{is_known}
use Rattle.ttf_form.specs.Forms.{form_over}
use Rattle.transform_rec.specs.Sets.{none, plus_all}
use Rattle.transform_rec.specs.Derived.{Derived}
use Rattle.transform_rec.specs.Histories.{family_in}
use Rattle.transform_rec.proofs.CallerLemmas.{same_set}
use Rattle.undo_group.specs.BaseForms.{base_form}
use Rattle.cot_site.specs.Code.Replicas.{IsNextAfter, KnowsBefore, before_last}
use Rattle.cot_site.proofs.RowForms.{rows_after}
use Rattle.cot_site.proofs.replica.form_at.Goals as goal

pub original_form-requires-clause-known : goal.original_form-requires-clause-known
original_form-requires-clause-known c =
    subst (λ (x : Member). is_known c.args.book.now.ops x ≡ true) c.in-Original.is c.requires.added.known

pub original_form-requires-clause-next : goal.original_form-requires-clause-next
original_form-requires-clause-next c =
    subst (λ (x : Member). IsNextAfter c.args.book.now.ops x (has (before_last c.args.book.now.ops)) c.args.forms.now c.args.rows.now)
    c.in-Original.is c.requires.next

pub original_form-requires-clause-knows : goal.original_form-requires-clause-knows
original_form-requires-clause-knows c sure =
    subst (λ (x : Member). KnowsBefore c.args.book.now.ops x) c.in-Original.is (c.requires.knows sure)

pub returns-in-Original-clause-form : goal.returns-in-Original-clause-form
returns-in-Original-clause-form c =
    let h = c.args.book.now.ops in
    subst (λ (x : Member). IfOk c.original_form.result
    (Derived form_over (family_in h (base_form h)) x (has (before_last c.args.book.now.ops)))) (sym c.in-Original.is)
    c.original_form.ensures.form

pub executed_group-requires-clause-last : goal.executed_group-requires-clause-last
executed_group-requires-clause-last c =
    let n = c.requires.next in
    (n.before, (n.executed.whole ∙ ap (λ (x : Member). n.before ++ x ∷ []) c.in-Group.is, n.executed.forms))

pub returns-in-Group-clause-form : goal.returns-in-Group-clause-form
returns-in-Group-clause-form c =
    let n = c.requires.next in
    let h = c.args.book.now.ops in
    let made = c.executed_group.ensures.form n.before (n.executed.whole ∙ ap (λ (x : Member). n.before ++ x ∷ []) c.in-Group.is) in
    subst (λ (C : Member → Bool). Derived form_over (family_in h (base_form h)) c.args.member.now C c.executed_group.result)
    (same_set (plus_all none n.before) (has (before_last c.args.book.now.ops)) n.set)
    (subst (λ (x : Member). Derived form_over (family_in h (base_form h)) x (plus_all none n.before) c.executed_group.result)
    (sym c.in-Group.is) made)

pub returns-in-Group-clause-rows : goal.returns-in-Group-clause-rows
returns-in-Group-clause-rows c =
    rows_after c.args.book.now.ops c.args.member.now (has (before_last c.args.book.now.ops)) c.args.forms.now c.args.rows.now
    c.requires.next
