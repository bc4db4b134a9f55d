-- A history grows by one operation: the forms of the operations before stay, and one form more is that of the new one.
use Rattle.std.proofs.Common.{◌≡◌, Bool, true, List, [], ◌∷◌, ◌++◌, inl, inr, refl, ap, sym, ◌∙◌, subst}
use Rattle.op_name.specs.NameData.{NameData}
use Rattle.op_name.specs.declared.member.Member.{Member}
use Rattle.op_name.specs.declared.member.Member.TheVariants.{Original, Group}
use Rattle.context_diff.specs.Operations.{OpData, member_of}
use Rattle.context_diff.specs.Histories.{members_in, is_known, IsValid}
use Rattle.context_diff.proofs.CallerLemmas.{valid_parts, complete, group_facts, base_on, known_in, in_known, members-append}
use Rattle.ttf_form.specs.declared.form.Form.{Form}
use Rattle.ttf_form.specs.Families.{IsIn}
use Rattle.transform_rec.specs.Sets.{none, SameSet, plus, plus_all}
use Rattle.transform_rec.specs.Family.{Family}
use Rattle.transform_rec.specs.Derived.{Derived, Holds}
use Rattle.transform_rec.specs.Executing.{AreFormsFrom}
use Rattle.transform_rec.specs.Histories.{family_in}
use Rattle.transform_rec.proofs.CallerLemmas.{in_left, same_set, same_from, all_in, all_cases, derived_moves}
use Rattle.undo_group.specs.BaseForms.{original_form, group_form, base_form}
use Rattle.fixed_replay.proofs.Elements.{not_both}
use Rattle.fixed_replay.proofs.Operations.{listed_member}
use Rattle.undo_group.specs.Laws.Forms.{form_at}

-- the members of a history as a set
pub known_set : (h : List OpData) → SameSet (plus_all none (members_in h)) (is_known h)
known_set h = same_from (plus_all none (members_in h)) (is_known h)
    (λ z e. elim (all_cases (members_in h) none z e) [ inl a ↦ not_both a refl | inr i ↦ in_known h z i ])
    (λ z e. all_in (members_in h) none z (known_in h z e))

-- the members of a history keep their base contexts when it grows
pub holds_more : {F : Type 0} (h k : List OpData) (form form' : Member → F) → IsValid (h ++ k)
    → ((m : Member) → is_known h m ≡ true → form m ≡ form' m) → Holds (family_in h form) (family_in (h ++ k) form')
holds_more h k form form' v agree = record {
  members = λ x i. subst (λ (ms : List Member). IsIn x ms) (sym (members-append h k)) (in_left x (members_in h) (members_in k) i);
  context = λ x i y. sym (base_on h k (complete h (valid_parts h k v).0) x (in_known h x i) y);
  form = λ x i. agree x (in_known h x i);
}

pub forms_on : {F : Type 0} (over : F → F → F) (b c : Family F) → Holds b c → (ms : List Member) (C : Member → Bool) (fs : List F)
    → AreFormsFrom over b C ms fs → AreFormsFrom over c C ms fs
forms_on over b c held [] C [] df = tt
forms_on over b c held [] C (f ∷ fs) df = absurd df
forms_on over b c held (m ∷ ms) C [] df = absurd df
forms_on over b c held (m ∷ ms) C (f ∷ fs) df = (derived_moves over b c held m C f df.0, forms_on over b c held ms (plus C m) fs df.1)

pub forms_push : {F : Type 0} (over : F → F → F) (b : Family F) (ms : List Member) (C : Member → Bool) (fs : List F) (m : Member) (f : F)
    → AreFormsFrom over b C ms fs → Derived over b m (plus_all C ms) f → AreFormsFrom over b C (ms ++ (m ∷ [])) (fs ++ (f ∷ []))
forms_push over b [] C [] m f df d = (d, tt)
forms_push over b [] C (g ∷ gs) m f df d = absurd df
forms_push over b (x ∷ xs) C [] m f df d = absurd df
forms_push over b (x ∷ xs) C (g ∷ gs) m f df d = (df.0, forms_push over b xs (plus C x) gs m f df.1 d)

-- the forms of a history with that of the next operation are those of the history with that operation
pub forms_grow : {F : Type 0} (over : F → F → F) (h : List OpData) (o : OpData) (form form' : Member → F) → IsValid (h ++ (o ∷ []))
    → ((m : Member) → is_known h m ≡ true → form m ≡ form' m)
    → (fs : List F) (f : F) → AreFormsFrom over (family_in h form) none (members_in h) fs
    → Derived over (family_in (h ++ (o ∷ [])) form') (member_of o) (is_known h) f
    → AreFormsFrom over (family_in (h ++ (o ∷ [])) form') none (members_in (h ++ (o ∷ []))) (fs ++ (f ∷ []))
forms_grow {F} over h o form form' v agree fs f df d =
    let b = family_in (h ++ (o ∷ [])) form' in
    let old = forms_on over (family_in h form) b (holds_more h (o ∷ []) form form' v agree) (members_in h) none fs df in
    let set : is_known h ≡ plus_all none (members_in h) = sym (same_set (plus_all none (members_in h)) (is_known h) (known_set h)) in
    let new : Derived over b (member_of o) (plus_all none (members_in h)) f =
    subst (λ (C : Member → Bool). Derived over b (member_of o) C f) set d in
    subst (λ (ms : List Member). AreFormsFrom over b none ms (fs ++ (f ∷ []))) (sym (members-append h (o ∷ [])))
    (forms_push over b (members_in h) none fs (member_of o) f old new)

-- base forms stay when a history grows
original_on : (h k : List OpData) → IsValid (h ++ k) → (n : NameData) → is_known h (Original n) ≡ true
    → original_form h n ≡ original_form (h ++ k) n
original_on h k v n known =
    let r = listed_member (Original n) h (known_in h (Original n) known) in
    form_at h (valid_parts h k v).0 r.0 n r.1 r.2 ∙ sym (form_at (h ++ k) v r.0 n (in_left r.0 h k r.1) r.2)

pub base_form_on : (h k : List OpData) → IsValid (h ++ k) → (m : Member) → is_known h m ≡ true → base_form h m ≡ base_form (h ++ k) m
base_form_on h k v (Original n) known = original_on h k v n known
base_form_on h k v (Group t g) known =
    let target = (group_facts h (complete h (valid_parts h k v).0) t g known).target in
    ap (λ (f : Form). group_form f t g) (original_on h k v t target)
