-- The form of a group at the members of a history, out of the executed form of the member before it.
use Rattle.std.proofs.Common.{◌≡◌, ◌≢◌, ℕ, zero, suc, ◌≤◌, Bool, false, List, [], ◌∷◌, ◌++◌, length, take, drop, inl, inr, refl, sym, ap, subst, arith}
use Rattle.op_name.specs.declared.member.Member.{Member}
use Rattle.ttf_form.specs.Families.{IsIn, total_by}
use Rattle.transform_rec.specs.Sets.{SameSet, plus, plus_all}
use Rattle.transform_rec.specs.Derived.{Deriving}
use Rattle.transform_rec.specs.Executing.{AreFormsFrom}
use Rattle.transform_rec.proofs.CallerLemmas.{all-append, form_step, derived_sound, derived_room}
use Rattle.form_rows.proofs.DerivedForms.{IsForm}
use Rattle.form_rows.specs.RowSets.{form_after, AfterFits}
use Rattle.form_rows.proofs.Passing.{follow_form}

module _ {F : Type 0} (d : Deriving F) where
  -- a form behind a list of executed members
  pub form_on : (m : Member) (xs : List Member) (C : Member → Bool) (f : F) (fs : List F) → ((z : Member) → IsIn z xs → m ≢ z)
      → IsForm d m C f → AreFormsFrom d.inclusion.over d.family C xs fs
      → IsForm d m (plus_all C xs) (form_after d.inclusion.over f fs)
  form_on m [] C f [] ne df r = df
  form_on m [] C f (k ∷ ks) ne df r = absurd r
  form_on m (x ∷ xs) C f [] ne df r = absurd r
  form_on m (x ∷ xs) C f (k ∷ ks) ne df r =
      form_on m xs (plus C x) (d.inclusion.over f k) ks (λ z i. ne z (inr i))
      (form_step d m x C f k (derived_sound d x C k r.0) (ne x (inl refl)) df r.0) r.1

  -- what was executed from a place on
  pub forms_drop : (n : ℕ) (xs : List Member) (C : Member → Bool) (fs : List F) → AreFormsFrom d.inclusion.over d.family C xs fs
      → AreFormsFrom d.inclusion.over d.family (plus_all C (take n xs)) (drop n xs) (drop n fs)
  forms_drop zero xs C fs r = r
  forms_drop (suc n) [] C [] r = tt
  forms_drop (suc n) [] C (f ∷ fs) r = absurd r
  forms_drop (suc n) (x ∷ xs) C [] r = absurd r
  forms_drop (suc n) (x ∷ xs) C (f ∷ fs) r = forms_drop n xs (plus C x) fs r.1

  -- as many as there are members
  pub forms_length : (xs : List Member) (C : Member → Bool) (fs : List F) → AreFormsFrom d.inclusion.over d.family C xs fs
      → length fs ≡ length xs
  forms_length [] C [] r = refl
  forms_length [] C (f ∷ fs) r = absurd r
  forms_length (x ∷ xs) C [] r = absurd r
  forms_length (x ∷ xs) C (f ∷ fs) r = ap suc (forms_length xs (plus C x) fs r.1)

  -- the executed form of x, which follows m, where m was executed before the rest
  pub undo_form : (follow : F → F)
      → ((f k : F) → d.inclusion.Apart f k → d.inclusion.over (follow f) (d.inclusion.over k f) ≡ follow (d.inclusion.over f k))
      → (m x : Member) → IsIn x d.family.members → SameSet (d.family.context x) (plus (d.family.context m) m)
      → d.family.form x ≡ follow (d.family.form m)
      → (before after : List Member) (C : Member → Bool) (f : F) (gs : List F) → plus_all C before x ≡ false
      → ((z : Member) → IsIn z after → x ≢ z)
      → AreFormsFrom d.inclusion.over d.family (plus_all C before) (m ∷ after) (f ∷ gs)
      → IsForm d x (plus_all C (before ++ (m ∷ after))) (form_after d.inclusion.over (follow f) gs)
  undo_form follow law m x listed base form before after C f gs out ne r =
      let start : IsForm d x (plus (plus_all C before) m) (follow f) =
      follow_form d follow law m x listed base form (plus_all C before) f out r.0 in
      let end = form_on x after (plus (plus_all C before) m) (follow f) gs ne start r.1 in
      subst (λ (S : Member → Bool). IsForm d x S (form_after d.inclusion.over (follow f) gs)) (sym (all-append C before (m ∷ after))) end

  -- each inclusion on the way fits
  pub after_fits : (m : Member) (xs : List Member) (C : Member → Bool) (f : F) (fs : List F)
      → total_by (λ y. d.inclusion.extent (d.family.form y)) d.family.members ≤ 4294967295
      → ((z : Member) → IsIn z xs → m ≢ z) → IsForm d m C f → AreFormsFrom d.inclusion.over d.family C xs fs
      → AfterFits d.inclusion.over d.inclusion.place d.inclusion.extent f fs
  after_fits m [] C f [] le ne df r = tt
  after_fits m [] C f (k ∷ ks) le ne df r = absurd r
  after_fits m (x ∷ xs) C f [] le ne df r = tt
  after_fits m (x ∷ xs) C f (k ∷ ks) le ne df r =
      let one = derived_room d m x C f k df r.0 in (
        omega arith,
        after_fits m xs (plus C x) (d.inclusion.over f k) ks le (λ z i. ne z (inr i))
            (form_step d m x C f k (derived_sound d x C k r.0) (ne x (inl refl)) df r.0) r.1,
      )

  -- the same for x, which follows m
  pub undo_fits : (follow : F → F)
      → ((f k : F) → d.inclusion.Apart f k → d.inclusion.over (follow f) (d.inclusion.over k f) ≡ follow (d.inclusion.over f k))
      → total_by (λ y. d.inclusion.extent (d.family.form y)) d.family.members ≤ 4294967295
      → (m x : Member) → IsIn x d.family.members → SameSet (d.family.context x) (plus (d.family.context m) m)
      → d.family.form x ≡ follow (d.family.form m)
      → (before after : List Member) (C : Member → Bool) (f : F) (gs : List F) → plus_all C before x ≡ false
      → ((z : Member) → IsIn z after → x ≢ z)
      → AreFormsFrom d.inclusion.over d.family (plus_all C before) (m ∷ after) (f ∷ gs)
      → AfterFits d.inclusion.over d.inclusion.place d.inclusion.extent (follow f) gs
  undo_fits follow law le m x listed base form before after C f gs out ne r =
      let start : IsForm d x (plus (plus_all C before) m) (follow f) =
      follow_form d follow law m x listed base form (plus_all C before) f out r.0 in
      after_fits x after (plus (plus_all C before) m) (follow f) gs le ne start r.1
