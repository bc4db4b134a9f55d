-- What every derived form has: its set is one that its member may be added to, and it keeps the extent, the apartness and
-- the bound of its base form.
use Rattle.std.proofs.Common.{◌≡◌, ◌≢◌, ℕ, zero, suc, ◌+◌, ◌≤◌, Bool, true, List, [], ◌∷◌, ◌⊎◌, inl, inr, refl, sym, ap, subst, ◌∙◌, arith}
use Rattle.op_name.specs.declared.member.Member.{Member}
use Rattle.transform_rec.specs.Sets.{SameSet, plus, minus}
use Rattle.ttf_form.specs.Families.{IsIn, total_by}
use Rattle.transform_rec.specs.Family.{Family, IsSound, size}
use Rattle.transform_rec.specs.Derived.{Derived, Deriving, weight, Holds}
use Rattle.transform_rec.specs.Derived.Derived.{at_base, by_step}
use Rattle.transform_rec.specs.Executing.{IsCausalFrom, AreFormsFrom}
use Rattle.transform_rec.proofs.Lists.{sum_below}
use Rattle.transform_rec.proofs.Sets.{same_set, plus_here, plus_keeps, minus_here, sum_plus}
use Rattle.transform_rec.proofs.Families.{sound_moves, sound_plus, sound_unrelated, base_sound, base_alone, last_other, last_whole, mine_without, its_without, size_plus}
use Rattle.transform_rec.proofs.Computed.{Difference, difference, computed_by, computed, computed_forms}

-- a derivation holds of any family that holds the members, base contexts and base forms of the first
pub derived_moves : {F : Type 0} (over : F → F → F) (b c : Family F) → Holds b c → (m : Member) (C : Member → Bool) (f : F)
    → Derived over b m C f → Derived over c m C f
derived_moves over b c h m C f (at_base i s e) = at_base (h.members m i) (λ z. s z ∙ h.context m i z) (e ∙ h.form m i)
derived_moves over b c h m C f (by_step D x g k i ne l s dg dk e) =
    by_step D x g k (h.members x i) ne l s (derived_moves over b c h m D g dg) (derived_moves over b c h x D k dk) e

-- a derivation at C of m names m and members of C alone: it holds of any family that has these as the first has them
pub derived_among : {F : Type 0} (over : F → F → F) (b c : Family F) (m : Member) (C : Member → Bool) (f : F)
    → ((x : Member) → (x ≡ m) ⊎ (C x ≡ true) → IsIn x b.members
    → IsIn x c.members × (SameSet (b.context x) (c.context x) × (b.form x ≡ c.form x))) → Derived over b m C f → Derived over c m C f
derived_among over b c m C f h (at_base i s e) =
    let r = h m (inl refl) i in
    at_base r.0 (λ z. s z ∙ r.1.0 z) (e ∙ r.1.1)
derived_among over b c m C f h (by_step D x g k i ne l s dg dk e) =
    let wider : (z : Member) → D z ≡ true → C z ≡ true = λ z d. s z ∙ plus_keeps D x z d in
    let there : C x ≡ true = s x ∙ plus_here D x in
    by_step D x g k (h x (inr there) i).0 ne l s
    (derived_among over b c m D g (λ z u. h z (elim u [ inl p ↦ inl p | inr d ↦ inr (wider z d) ])) dg)
    (derived_among over b c x D k (λ z u.
    h z (elim u [ inl p ↦ inr (subst (λ (y : Member). C y ≡ true) (sym p) there) | inr d ↦ inr (wider z d) ])) dk)
    e

module _ {F : Type 0} (d : Deriving F) where
  abbrev pub IsForm : Member → (Member → Bool) → F → Type 0
  IsForm m C f = Derived d.inclusion.over d.family m C f

  pub form_moves : (m : Member) (C D : Member → Bool) (f : F) → SameSet C D → IsForm m C f → IsForm m D f
  form_moves m C D f h r = subst (λ (E : Member → Bool). IsForm m E f) (same_set C D h) r

  -- one inclusion step
  pub form_step : (m x : Member) (D : Member → Bool) (g k : F) → IsSound d.family x D → m ≢ x → IsForm m D g → IsForm x D k
      → IsForm m (plus D x) (d.inclusion.over g k)
  form_step m x D g k s ne dg dk = by_step D x g k s.listed ne s.lacks (λ z. refl) dg dk refl

  pub derived_sound : (m : Member) (C : Member → Bool) (f : F) → IsForm m C f → IsSound d.family m C
  derived_sound m C f (at_base i s e) =
      sound_moves d.family m (d.family.context m) C (λ z. sym (s z)) (base_sound d.family d.known.causal m i)
  derived_sound m C f (by_step D x g k i ne l s dg dk e) =
      sound_moves d.family m (plus D x) C (λ z. sym (s z)) (sound_plus d.family m x D (derived_sound m D g dg) (derived_sound x D k dk) ne)

  pub derived_extent : (m : Member) (C : Member → Bool) (f : F) → IsForm m C f → d.inclusion.extent f ≡ d.inclusion.extent (d.family.form m)
  derived_extent m C f (at_base i s e) = ap d.inclusion.extent e
  derived_extent m C f (by_step D x g k i ne l s dg dk e) = ap d.inclusion.extent e ∙ (d.laws.extent_over g k ∙ derived_extent m D g dg)

  -- what is apart from the base form is apart from the derived ones
  apart_from_base : (m : Member) (C : Member → Bool) (f : F) → IsForm m C f → (h : F) → d.inclusion.Apart (d.family.form m) h
      → d.inclusion.Apart f h
  apart_from_base m C f (at_base i s e) h a = subst (λ (x : F). d.inclusion.Apart x h) (sym e) a
  apart_from_base m C f (by_step D x g k i ne l s dg dk e) h a =
      subst (λ (y : F). d.inclusion.Apart y h) (sym e) (d.laws.apart_over g h k (apart_from_base m D g dg h a))

  -- the forms of two members at a set that each of them may be added to are apart
  pub forms_apart : (m x : Member) (D : Member → Bool) (f k : F) → m ≢ x → IsForm m D f → IsForm x D k → d.inclusion.Apart f k
  forms_apart m x D f k ne df dk =
      let sm = derived_sound m D f df in
      let sx = derived_sound x D k dk in
      let base = d.known.apart m x sm.listed sx.listed ne (sound_unrelated d.family m x D sm sx) (sound_unrelated d.family x m D sx sm) in
      apart_from_base m D f df k (d.laws.apart_sym k (d.family.form m)
      (apart_from_base x D k dk (d.family.form m) (d.laws.apart_sym (d.family.form m) (d.family.form x) base)))

  -- one member more weighs as much as its forms
  pub weight_plus : (x : Member) (D : Member → Bool) (k : F) → IsForm x D k
      → weight d.inclusion d.family (plus D x) ≡ weight d.inclusion d.family D + d.inclusion.extent k
  weight_plus x D k dk =
      let s = derived_sound x D k dk in
      let own = derived_extent x D k dk in
      let more = sum_plus D x (λ y. d.inclusion.extent (d.family.form y)) d.family.members d.known.causal.distinct s.listed s.lacks in
      more ∙ ap (λ n. weight d.inclusion d.family D + n) (sym own)

  -- a derived form is bounded by the weight of its set
  pub derived_bounded : (m : Member) (C : Member → Bool) (f : F) → IsForm m C f → d.inclusion.IsBounded f (weight d.inclusion d.family C)
  derived_bounded m C f (at_base i s e) =
      let here : d.inclusion.IsBounded (d.family.form m) (weight d.inclusion d.family C) =
      subst (λ (E : Member → Bool). d.inclusion.IsBounded (d.family.form m) (weight d.inclusion d.family E))
      (sym (same_set C (d.family.context m) s)) (d.known.bounded m i) in
      subst (λ (x : F). d.inclusion.IsBounded x (weight d.inclusion d.family C)) (sym e) here
  derived_bounded m C f (by_step D x g k i ne l s dg dk e) =
      let step : d.inclusion.IsBounded (d.inclusion.over g k) (weight d.inclusion d.family D + d.inclusion.extent k) =
      d.laws.bound_over g k (weight d.inclusion d.family D) (derived_bounded m D g dg) in
      let more : d.inclusion.IsBounded (d.inclusion.over g k) (weight d.inclusion d.family (plus D x)) =
      subst (λ (n : ℕ). d.inclusion.IsBounded (d.inclusion.over g k) n) (sym (weight_plus x D k dk)) step in
      let here : d.inclusion.IsBounded (d.inclusion.over g k) (weight d.inclusion d.family C) =
      subst (λ (E : Member → Bool). d.inclusion.IsBounded (d.inclusion.over g k) (weight d.inclusion d.family E))
      (sym (same_set C (plus D x) s)) more in
      subst (λ (y : F). d.inclusion.IsBounded y (weight d.inclusion d.family C)) (sym e) here

  -- the place of a form with the extent of another at the same set stays within the weight of the family
  pub derived_room : (m x : Member) (D : Member → Bool) (f k : F) → IsForm m D f → IsForm x D k
      → d.inclusion.place f + d.inclusion.extent k ≤ total_by (λ y. d.inclusion.extent (d.family.form y)) d.family.members
  derived_room m x D f k df dk =
      let place = d.laws.bound_place f (weight d.inclusion d.family D) (derived_bounded m D f df) in
      let more = weight_plus x D k dk in
      let all = sum_below (plus D x) (λ y. d.inclusion.extent (d.family.form y)) d.family.members in
      omega arith

  -- ---- each member has a form at each set that it may be added to: the one that is computed

  computed_by_is : (n : ℕ) (rest : Member → (Member → Bool) → F)
      → ((m : Member) (C : Member → Bool) → suc (size d.family C) ≤ n → IsSound d.family m C → IsForm m C (rest m C))
      → (m : Member) (C : Member → Bool) → size d.family C ≤ n → IsSound d.family m C → (r : Difference d.inclusion.over d.family m C)
      → IsForm m C (computed_by d.inclusion.over d.family rest m C r)
  computed_by_is n rest smaller m C le s (inl none) = at_base s.listed (base_alone d.family m C s none) refl
  computed_by_is n rest smaller m C le s (inr l) =
      let x = l.it in
      let D = minus C x in
      let whole = last_whole d.family m C l in
      let out = minus_here C x in
      let its = its_without d.family d.known.causal m C s l in
      let same : size d.family C ≡ size d.family (plus D x) = ap (size d.family) (same_set C (plus D x) whole) in
      let more = size_plus d.family d.known.causal x D its.listed out in
      let less : suc (size d.family D) ≤ n = omega arith in
      by_step D x (rest m D) (rest x D) its.listed (last_other d.family m C s l) out whole
      (smaller m D less (mine_without d.family d.known.causal m C s l)) (smaller x D less its) refl

  -- a set without members is a base context
  computed_none : (m : Member) (C : Member → Bool) → size d.family C ≤ 0 → IsSound d.family m C → Difference d.inclusion.over d.family m C
      → IsForm m C (d.family.form m)
  computed_none m C le s (inl none) = computed_by_is 0 (λ x D. d.family.form x) (λ x D l r. absurd (omega arith)) m C le s (inl none)
  computed_none m C le s (inr l) =
      let D = minus C l.it in
      let same : size d.family C ≡ size d.family (plus D l.it) =
      ap (size d.family) (same_set C (plus D l.it) (last_whole d.family m C l)) in
      let more = size_plus d.family d.known.causal l.it D (its_without d.family d.known.causal m C s l).listed (minus_here C l.it) in
      absurd (omega arith)

  pub computed_is : (n : ℕ) (m : Member) (C : Member → Bool) → size d.family C ≤ n → IsSound d.family m C
      → IsForm m C (computed d.inclusion.over d.family n m C)
  computed_is zero m C le s = computed_none m C le s (difference d.inclusion.over d.family m C)
  computed_is (suc n) m C le s =
      computed_by_is (suc n) (λ x D. computed d.inclusion.over d.family n x D) (λ x D l r. computed_is n x D (omega arith) r) m C le s
      (difference d.inclusion.over d.family m C)

  pub exists : (m : Member) (C : Member → Bool) → IsSound d.family m C → (f : F) × IsForm m C f
  exists m C s = (computed d.inclusion.over d.family (size d.family C) m C, computed_is (size d.family C) m C (omega arith) s)

  -- each causal list has its forms
  pub computed_list : (xs : List Member) (C : Member → Bool) → IsCausalFrom d.family C xs
      → AreFormsFrom d.inclusion.over d.family C xs (computed_forms d.inclusion.over d.family xs C)
  computed_list [] C r = tt
  computed_list (x ∷ xs) C r = (computed_is (size d.family C) x C (omega arith) r.0, computed_list xs (plus C x) r.1)

  pub list_forms : (xs : List Member) (C : Member → Bool) → IsCausalFrom d.family C xs
      → (fs : List F) × AreFormsFrom d.inclusion.over d.family C xs fs
  list_forms xs C r = (computed_forms d.inclusion.over d.family xs C, computed_list xs C r)
