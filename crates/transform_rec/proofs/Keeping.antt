-- Entries of a cache that are forms stay so: when one is used, when a form is put among them, and when the history grows.
use Rattle.std.proofs.Common.{◌≡◌, Bool, true, List, [], ◌∷◌, ◌++◌, Contains, ◌⊎◌, inl, inr, sym, subst, ◌∙◌}
use Rattle.std.specs.Prelude.{Option, Some, None, IfSome}
use Rattle.std.proofs.lemmas.List.{map-append}
use Rattle.op_name.specs.declared.member.Member.{Member}
use Rattle.context_vector.specs.Contexts.{ContextData, has}
use Rattle.context_diff.specs.Operations.{OpData, member_of}
use Rattle.context_diff.specs.Histories.{members_in, is_known, IsValid}
use Rattle.context_diff.proofs.CallerLemmas.{contains_none, valid_parts, complete, base_on, in_known}
use Rattle.form_cache.specs.declared.cache.Kept.{Kept}
use Rattle.form_cache.specs.Keys.{KeyData}
use Rattle.form_cache.specs.Entries.{Entries, CacheData, form_at, used, asked, with_form}
use Rattle.form_cache.proofs.CallerLemmas.{found_entry, used_entry, asked_entry, put_entry}
use Rattle.ttf_form.specs.Families.{IsIn}
use Rattle.transform_rec.specs.Family.{Family, IsCausalFamily}
use Rattle.transform_rec.specs.Derived.{Derived, IsOnlyFormAt, Holds}
use Rattle.transform_rec.specs.Derived.Derived.{at_base, by_step}
use Rattle.transform_rec.specs.Histories.{family_in}
use Rattle.transform_rec.specs.Entries.{AreForms, NoEntriesAreForms, NextOperationKeepsForms}
use Rattle.transform_rec.proofs.Lists.{in_left}
use Rattle.transform_rec.proofs.Sets.{plus_cases}
use Rattle.transform_rec.proofs.Forms.{derived_moves, derived_among}
use Rattle.transform_rec.proofs.Histories.{history_causal}

-- ---- the calls of the cache

module _ {F : Type 0} (over : F → F → F) (b : Family F) where
  pub found_form : (es : Entries F) (k : KeyData) (f : F) → AreForms over b es → form_at es k ≡ Some f
      → IsOnlyFormAt over b k.member (has k.context) f
  found_form es k f known h = let e = found_entry es k f h in subst (IsOnlyFormAt over b k.member (has k.context)) e.2 (known (k, e.0) e.1)

  pub found_if : (es : Entries F) (k : KeyData) (r : Option F) → AreForms over b es → r ≡ form_at es k
      → IfSome r (IsOnlyFormAt over b k.member (has k.context))
  found_if es k None known e = tt
  found_if es k (Some f) known e = found_form es k f known (sym e)

  pub forms_used : (es new : Entries F) (k : KeyData) → AreForms over b es → new ≡ used es k → AreForms over b new
  forms_used es new k known h e i = known e (used_entry es k e (subst (λ (l : Entries F). Contains l e) h i))

  pub forms_asked : (es new : Entries F) (k : KeyData) → AreForms over b es → new ≡ asked es k → AreForms over b new
  forms_asked es new k known h e i = known e (asked_entry es k e (subst (λ (l : Entries F). Contains l e) h i))

  put_form : (c : CacheData F) (k : KeyData) (f : F) (once : Bool) → AreForms over b c.entries
      → IsOnlyFormAt over b k.member (has k.context) f → AreForms over b (with_form c k f once)
  put_form c k f once known o e i =
      elim (put_entry c k f once e i) [
        | inl old ↦ known e old
        | inr new ↦
            subst (λ (p : KeyData × Kept F). IsOnlyFormAt over b p.0.member (has p.0.context) p.1.form) (sym new) o
      ]

  pub forms_kept : (c : CacheData F) (new : Entries F) (k : KeyData) (f : F) (once : Bool) → AreForms over b c.entries
      → IsOnlyFormAt over b k.member (has k.context) f → (new ≡ with_form c k f once) ⊎ (new ≡ c.entries) → AreForms over b new
  forms_kept c new k f once known o (inl h) = subst (λ (l : Entries F). AreForms over b l) (sym h) (put_form c k f once known o)
  forms_kept c new k f once known o (inr h) = subst (λ (l : Entries F). AreForms over b l) (sym h) known

  -- a form of a member at a set is one of the key that is made of them
  pub key_form : (k : KeyData) (x y : Member) (c : ContextData) (f : F) → k ≡ record { member = y; context = c } → y ≡ x
      → IsOnlyFormAt over b x (has c) f → IsOnlyFormAt over b k.member (has k.context) f
  key_form k x y c f e is only =
      subst (λ (l : KeyData). IsOnlyFormAt over b l.member (has l.context) f) (sym e)
      (subst (λ (z : Member). IsOnlyFormAt over b z (has c) f) (sym is) only)

-- ---- no entries, and one operation more

pub no_entries : {F : Type 0} (over : F → F → F) → NoEntriesAreForms over
no_entries over b e i = absurd (contains_none e i)

-- what a derivation names is listed
derived_member : {F : Type 0} (over : F → F → F) (b : Family F) (m : Member) (C : Member → Bool) (f : F) → Derived over b m C f
    → IsIn m b.members
derived_member over b m C f (at_base i s e) = i
derived_member over b m C f (by_step D x g k i ne l s dg dk e) = derived_member over b m D g dg

derived_listed : {F : Type 0} (over : F → F → F) (b : Family F) → IsCausalFamily b → (m : Member) (C : Member → Bool) (f : F)
    → Derived over b m C f → (x : Member) → C x ≡ true → IsIn x b.members
derived_listed over b c m C f (at_base i s e) x h = c.listed m x i (sym (s x) ∙ h)
derived_listed over b c m C f (by_step D y g k i ne l s dg dk e) x h =
    elim (plus_cases D y x (sym (s x) ∙ h))
    [ inl d ↦ derived_listed over b c m D g dg x d | inr same ↦ subst (λ (z : Member). IsIn z b.members) same i ]

module _ {F : Type 0} (over : F → F → F) (h k : List OpData) (form other : Member → F) (v : IsValid (h ++ k))
    (agree : (x : Member) → is_known h x ≡ true → form x ≡ other x) where
  grown_holds : Holds (family_in h form) (family_in (h ++ k) other)
  grown_holds = record {
    members = λ x i. subst (λ (ms : List Member). IsIn x ms) (sym (map-append member_of h k)) (in_left x (members_in h) (members_in k) i);
    context = λ x i y. sym (base_on h k (complete h (valid_parts h k v).0) x (in_known h x i) y);
    form = λ x i. agree x (in_known h x i);
  }

  -- the only form over a history is the only one over a longer history
  pub grown_only : (m : Member) (C : Member → Bool) (f : F) → IsOnlyFormAt over (family_in h form) m C f
      → IsOnlyFormAt over (family_in (h ++ k) other) m C f
  grown_only m C f o = (
    derived_moves over (family_in h form) (family_in (h ++ k) other) grown_holds m C f o.0,
    λ g dg. o.1 g (derived_among over (family_in (h ++ k) other) (family_in h form) m C g (λ x u i.
        let there : IsIn x (members_in h) = elim u [
          | inl e ↦ subst (λ (y : Member). IsIn y (members_in h)) (sym e) (derived_member over (family_in h form) m C f o.0)
          | inr e ↦ derived_listed over (family_in h form) (history_causal h form (valid_parts h k v).0) m C f o.0 x e
        ] in
        (there, ((λ y. base_on h k (complete h (valid_parts h k v).0) x (in_known h x there) y), sym (agree x (in_known h x there))))) dg),
  )

pub next_keeps : {F : Type 0} (over : F → F → F) → NextOperationKeepsForms over
next_keeps over h o form other es v agree known e i =
    grown_only over h (o ∷ []) form other v agree e.0.member (has e.0.context) e.1.form (known e i)
