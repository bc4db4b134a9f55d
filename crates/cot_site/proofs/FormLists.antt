-- Lists of forms beside the states of sites: there is one beside each valid history, and it shows what the history shows.
use Rattle.std.proofs.Common.{◌≡◌, List, [], ◌∷◌, ◌++◌, refl, subst}
use Rattle.op_name.specs.declared.member.Member.{Member}
use Rattle.context_diff.specs.Operations.{OpData}
use Rattle.context_diff.specs.Histories.{members_in, IsValid}
use Rattle.context_diff.proofs.CallerLemmas.{valid_pop, members-append}
use Rattle.ttf_form.specs.declared.form.Form.{Form}
use Rattle.ttf_form.specs.Forms.{form_over}
use Rattle.ttf_form.specs.Cells.{CellData, applied}
use Rattle.transform_rec.specs.Sets.{none}
use Rattle.transform_rec.specs.Executing.{Setting, AreFormsFrom, executed}
use Rattle.transform_rec.specs.Histories.{family_in}
use Rattle.transform_rec.proofs.CallerLemmas.{computed_forms, forms_once, forms_begin}
use Rattle.undo_group.specs.BaseForms.{base_form}
use Rattle.undo_group.specs.Laws.Forms.{base_forms_hold}
use Rattle.fixed_replay.proofs.CallerLemmas.{setting_of, computed_executed, forms_on, holds_more, base_form_on, valid_family, valid_own_names}
use Rattle.cot_site.specs.States.{State}
use Rattle.cot_site.specs.Sites.{AreExecuted, KeepsForms}
use Rattle.cot_site.specs.Views.{history_view, forms_view, AreFormLists}
use Rattle.cot_site.proofs.Executions.{cells_replayed}
use Rattle.cot_site.proofs.Views.{view_is}

abbrev setting : (h : List OpData) → IsValid h → Setting Form (List CellData)
setting h valid =
    let forms = base_forms_hold h valid in
    setting_of (family_in h (base_form h)) (valid_family h valid (base_form h) forms) (valid_own_names h valid (base_form h) forms)

-- a valid history has one list of derived forms
pub one_list : (h : List OpData) (fs gs : List Form) → IsValid h → AreExecuted h fs → AreExecuted h gs → fs ≡ gs
one_list h fs gs valid df dg = forms_once (setting h valid) (members_in h) none fs gs df dg

-- and the list of a longer history begins with it
forms_kept : (h : List OpData) (o : OpData) (fs gs : List Form) → IsValid (h ++ o ∷ []) → AreExecuted h fs → AreExecuted (h ++ o ∷ []) gs
    → KeepsForms fs gs
forms_kept h o fs gs valid df dg =
    let k = h ++ o ∷ [] in
    let b = family_in k (base_form k) in
    let old =
    forms_on form_over (family_in h (base_form h)) b
    (holds_more h (o ∷ []) (base_form h) (base_form k) valid (base_form_on h (o ∷ []) valid)) (members_in h) none fs df in
    let new : AreFormsFrom form_over b none (members_in h ++ members_in (o ∷ [])) gs =
    subst (λ (ms : List Member). AreFormsFrom form_over b none ms gs) (members-append h (o ∷ [])) dg in
    forms_begin (setting k valid) (members_in h) (members_in (o ∷ [])) none fs gs old new

-- the forms that can be computed from the history of a state
abbrev pub computed_of : State → List Form
computed_of s = computed_forms form_over (family_in s.history (base_form s.history)) (members_in s.history) none

computed_are : (s : State) → IsValid s.history → AreExecuted s.history (computed_of s)
computed_are s valid = computed_executed s.history valid (base_form s.history) (base_forms_hold s.history valid)

pub computed_lists : AreFormLists computed_of
computed_lists = computed_are

-- the forms beside a history stay when it grows
pub lists_stay : (forms : State → List Form) (s t : State) (o : OpData) → AreFormLists forms → IsValid t.history
    → t.history ≡ s.history ++ o ∷ [] → KeepsForms (forms s) (forms t)
lists_stay forms s t o are valid grown =
    let longer : IsValid (s.history ++ o ∷ []) = subst IsValid grown valid in
    forms_kept s.history o (forms s) (forms t) longer (are s (valid_pop s.history o longer).0)
    (subst (λ (h : List OpData). AreExecuted h (forms t)) grown (are t valid))

-- lists of forms beside states show what the valid histories show
pub lists_show : (forms : State → List Form) (s : State) → AreFormLists forms → IsValid s.history → forms_view forms s ≡ history_view s
lists_show forms s are valid =
    let fs = forms s in
    view_is s (executed applied [] fs)
    (cells_replayed s.history fs (executed applied [] fs) valid (record { forms = are s valid; cells = refl }))
