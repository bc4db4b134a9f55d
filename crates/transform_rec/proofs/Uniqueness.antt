-- There is one derived form of a member at a set: by induction on the size of the set, for all members at once.
use Rattle.std.proofs.Common.{◌≡◌, ◌≢◌, ℕ, zero, suc, ◌≤◌, Bool, true, false, ◌⊎◌, inl, inr, sym, ap, ap₂, subst, ◌∙◌, arith}
use Rattle.std.proofs.lemmas.Bool.{both_ways, and_parts, and_from, and_left, and_right}
use Rattle.op_name.specs.declared.member.Member.{Member}
use Rattle.transform_rec.specs.Sets.{IsSubset, SameSet, plus, meet}
use Rattle.transform_rec.specs.Family.{Family, IsClosed, IsSound, size}
use Rattle.transform_rec.specs.Derived.{IsOnlyFormAt, Deriving, Holds}
use Rattle.transform_rec.specs.Derived.Derived.{at_base, by_step}
use Rattle.op_name.proofs.CallerLemmas.{member_cases}
use Rattle.transform_rec.proofs.Sets.{same_set, same_from, plus_here, plus_keeps, plus_cases, plus_cancel, plus_within}
use Rattle.transform_rec.proofs.Families.{closed_meet, size_plus}
use Rattle.transform_rec.proofs.Forms.{IsForm, form_moves, form_step, derived_sound, forms_apart, exists, derived_moves}

module _ {F : Type 0} (d : Deriving F) where
  -- two sets that lack x and y, and agree once they have both x and y, differ by these two alone
  record Diamond (C D E : Member → Bool) (x y : Member) : Type 0 where
    left : SameSet C (plus D x)
    right : SameSet C (plus E y)
    out_x : D x ≡ false
    out_y : E y ≡ false
    apart : x ≢ y

  in_right_set : (C D E : Member → Bool) (x y : Member) → Diamond C D E x y → E x ≡ true
  in_right_set C D E x y h =
      elim (plus_cases E y x (sym (h.right x) ∙ (h.left x ∙ plus_here D x))) [ inl a ↦ a | inr e ↦ absurd (h.apart (sym e)) ]

  turned : (C D E : Member → Bool) (x y : Member) → Diamond C D E x y → Diamond C E D y x
  turned C D E x y h = record { left = h.right; right = h.left; out_x = h.out_y; out_y = h.out_x; apart = λ e. h.apart (sym e) }

  -- D is what both have, with y
  corner : (C D E : Member → Bool) (x y : Member) → Diamond C D E x y → SameSet D (plus (meet D E) y)
  corner C D E x y h =
      let y_in : D y ≡ true = in_right_set C E D y x (turned C D E x y h) in
      same_from D (plus (meet D E) y)
      (λ z i. elim (plus_cases E y z (sym (h.right z) ∙ (h.left z ∙ plus_keeps D x z i))) [
        | inl a ↦ plus_keeps (meet D E) y z (and_from (D z) (E z) i a)
        | inr e ↦
            subst (λ (w : Member). plus (meet D E) y w ≡ true) e (plus_here (meet D E) y)
      ])
      (plus_within (meet D E) D y (λ z i. (and_parts (D z) (E z) i).0) y_in)

  meet_turned : (D E : Member → Bool) → SameSet (meet E D) (meet D E)
  meet_turned D E = same_from (meet E D) (meet D E)
      (λ z i. let r = and_parts (E z) (D z) i in and_from (D z) (E z) r.1 r.0)
      (λ z i. let r = and_parts (D z) (E z) i in and_from (E z) (D z) r.1 r.0)

  other_corner : (C D E : Member → Bool) (x y : Member) → Diamond C D E x y → SameSet E (plus (meet D E) x)
  other_corner C D E x y h z =
      corner C E D y x (turned C D E x y h) z ∙ ap (λ (B : Member → Bool). plus B x z) (same_set (meet E D) (meet D E) (meet_turned D E))

  sound_meet : (m : Member) (D E : Member → Bool) → IsSound d.family m D → IsClosed d.family E → IsSubset (d.family.context m) E
      → IsSound d.family m (meet D E)
  sound_meet m D E s c h = record {
    listed = s.listed;
    covers = λ z i. and_from (D z) (E z) (s.covers z i) (h z i);
    set = closed_meet d.family D E s.set c.closed;
    lacks = and_left (D m) (E m) s.lacks;
  }

  sound_meet_right : (m : Member) (D E : Member → Bool) → IsSound d.family m E → IsClosed d.family D → IsSubset (d.family.context m) D
      → IsSound d.family m (meet D E)
  sound_meet_right m D E s c h = record {
    listed = s.listed;
    covers = λ z i. and_from (D z) (E z) (h z i) (s.covers z i);
    set = closed_meet d.family D E c s.set.closed;
    lacks = and_right (D m) (E m) s.lacks;
  }

  -- all smaller sets have one form for each member
  abbrev Below : (Member → Bool) → Type 0
  Below C = (D : Member → Bool) (m : Member) (f g : F) → suc (size d.family D) ≤ size d.family C → IsForm d m D f → IsForm d m D g → f ≡ g

  falls : (C D : Member → Bool) (x : Member) (k : F) → SameSet C (plus D x) → IsForm d x D k → suc (size d.family D) ≤ size d.family C
  falls C D x k h dk =
      let s = derived_sound d x D k dk in
      let same : size d.family C ≡ size d.family (plus D x) = ap (size d.family) (same_set C (plus D x) h) in
      let more = size_plus d.family d.known.causal x D s.listed s.lacks in
      omega arith

  -- two derivations that end over one member
  same_last : (C D E : Member → Bool) (m x : Member) (g g2 k k2 : F) → Below C → SameSet C (plus D x) → SameSet C (plus E x)
      → IsForm d m D g → IsForm d x D k → IsForm d m E g2 → IsForm d x E k2 → d.inclusion.over g k ≡ d.inclusion.over g2 k2
  same_last C D E m x g g2 k k2 ih h h2 dg dk dg2 dk2 =
      let sd = derived_sound d x D k dk in
      let se = derived_sound d x E k2 dk2 in
      let same : SameSet E D = plus_cancel E D x se.lacks sd.lacks (λ z. sym (h2 z) ∙ h z) in
      let less = falls C D x k h dk in
      ap₂ d.inclusion.over (ih D m g g2 less dg (form_moves d m E D g2 same dg2)) (ih D x k k2 less dk (form_moves d x E D k2 same dk2))

  -- the diamond: two derivations that end over different members meet below both, by TP2
  diamond : (C D E : Member → Bool) (m x y : Member) (g g2 k k2 : F) → Below C → m ≢ x → m ≢ y → Diamond C D E x y → IsForm d m D g
      → IsForm d x D k → IsForm d m E g2 → IsForm d y E k2 → d.inclusion.over g k ≡ d.inclusion.over g2 k2
  diamond C D E m x y g g2 k k2 ih mx my h dg dk dg2 dk2 =
      let B = meet D E in
      let sm = derived_sound d m D g dg in
      let sm2 = derived_sound d m E g2 dg2 in
      let sx = derived_sound d x D k dk in
      let sy = derived_sound d y E k2 dk2 in
      let bm = sound_meet m D E sm sy.set sm2.covers in
      let bx = sound_meet x D E sx sy.set (sy.set.closed x (in_right_set C D E x y h)) in
      let by = sound_meet_right y D E sy sx.set (sx.set.closed y (in_right_set C E D y x (turned C D E x y h))) in
      let o = exists d m B bm in
      let a = exists d x B bx in
      let e = exists d y B by in
      let to_d : SameSet (plus B y) D = λ (z : Member). sym (corner C D E x y h z) in
      let to_e : SameSet (plus B x) E = λ (z : Member). sym (other_corner C D E x y h z) in
      let less_d = falls C D x k h.left dk in
      let less_e = falls C E y k2 h.right dk2 in
      let g_is : g ≡ d.inclusion.over o.0 e.0 =
      ih D m g (d.inclusion.over o.0 e.0) less_d dg
      (form_moves d m (plus B y) D (d.inclusion.over o.0 e.0) to_d (form_step d m y B o.0 e.0 by my o.1 e.1)) in
      let k_is : k ≡ d.inclusion.over a.0 e.0 =
      ih D x k (d.inclusion.over a.0 e.0) less_d dk
      (form_moves d x (plus B y) D (d.inclusion.over a.0 e.0) to_d (form_step d x y B a.0 e.0 by h.apart a.1 e.1)) in
      let g2_is : g2 ≡ d.inclusion.over o.0 a.0 =
      ih E m g2 (d.inclusion.over o.0 a.0) less_e dg2
      (form_moves d m (plus B x) E (d.inclusion.over o.0 a.0) to_e (form_step d m x B o.0 a.0 bx mx o.1 a.1)) in
      let k2_is : k2 ≡ d.inclusion.over e.0 a.0 =
      ih E y k2 (d.inclusion.over e.0 a.0) less_e dk2
      (form_moves d y (plus B x) E (d.inclusion.over e.0 a.0) to_e (form_step d y x B e.0 a.0 bx (λ p. h.apart (sym p)) e.1 a.1)) in
      let turn =
      d.laws.tp2 o.0 a.0 e.0 (forms_apart d m x B o.0 a.0 mx o.1 a.1) (forms_apart d m y B o.0 e.0 my o.1 e.1)
      (forms_apart d x y B a.0 e.0 h.apart a.1 e.1) in
      ap₂ d.inclusion.over g_is k_is ∙ (sym turn ∙ sym (ap₂ d.inclusion.over g2_is k2_is))

  -- a base context isn't a greater set
  not_both : (C D : Member → Bool) (m x : Member) (g : F) → SameSet C (d.family.context m) → SameSet C (plus D x) → D x ≡ false
      → IsForm d m D g → ⊥
  not_both C D m x g h h2 l dg =
      let s = derived_sound d m D g dg in
      both_ways (D x) l (s.covers x (sym (h x) ∙ (h2 x ∙ plus_here D x)))

  two_steps : (C D E : Member → Bool) (m x y : Member) (g g2 k k2 : F) → Below C → m ≢ x → m ≢ y → SameSet C (plus D x)
      → SameSet C (plus E y) → D x ≡ false → E y ≡ false → IsForm d m D g → IsForm d x D k → IsForm d m E g2 → IsForm d y E k2
      → (x ≡ y) ⊎ (x ≢ y) → d.inclusion.over g k ≡ d.inclusion.over g2 k2
  two_steps C D E m x y g g2 k k2 ih mx my h h2 l l2 dg dk dg2 dk2 (inl e) =
      same_last C D E m x g g2 k k2 ih h (subst (λ (w : Member). SameSet C (plus E w)) (sym e) h2) dg dk dg2
      (subst (λ (w : Member). IsForm d w E k2) (sym e) dk2)
  two_steps C D E m x y g g2 k k2 ih mx my h h2 l l2 dg dk dg2 dk2 (inr ne) =
      diamond C D E m x y g g2 k k2 ih mx my (record { left = h; right = h2; out_x = l; out_y = l2; apart = ne }) dg dk dg2 dk2

  once_by : (m : Member) (C : Member → Bool) (f h : F) → Below C → IsForm d m C f → IsForm d m C h → f ≡ h
  once_by m C f h ih (at_base i s e) (at_base i2 s2 e2) = e ∙ sym e2
  once_by m C f h ih (at_base i s e) (by_step E y g2 k2 i2 ne2 l2 s2 dg2 dk2 e2) = absurd (not_both C E m y g2 s s2 l2 dg2)
  once_by m C f h ih (by_step D x g k i ne l s dg dk e) (at_base i2 s2 e2) = absurd (not_both C D m x g s2 s l dg)
  once_by m C f h ih (by_step D x g k i ne l s dg dk e) (by_step E y g2 k2 i2 ne2 l2 s2 dg2 dk2 e2) =
      e ∙ (two_steps C D E m x y g g2 k k2 ih ne ne2 s s2 l l2 dg dk dg2 dk2 (member_cases x y) ∙ sym e2)

  once_up_to : (n : ℕ) (m : Member) (C : Member → Bool) (f g : F) → size d.family C ≤ n → IsForm d m C f → IsForm d m C g → f ≡ g
  once_up_to zero m C f g le df dg = once_by m C f g (λ D x h k l dh dk. absurd (omega arith)) df dg
  once_up_to (suc n) m C f g le df dg = once_by m C f g (λ D x h k l dh dk. once_up_to n x D h k (omega arith) dh dk) df dg

  pub derived_once : (m : Member) (C : Member → Bool) (f g : F) → IsForm d m C f → IsForm d m C g → f ≡ g
  derived_once m C f g df dg = once_up_to (size d.family C) m C f g (omega arith) df dg

  -- the law of steps: over one member more, the form is the form before after the inclusion of that member's
  pub step_law : (m x : Member) (D : Member → Bool) (f g k : F) → m ≢ x → IsForm d m D g → IsForm d x D k → IsForm d m (plus D x) f
      → f ≡ d.inclusion.over g k
  step_law m x D f g k ne dg dk df =
      derived_once m (plus D x) f (d.inclusion.over g k) df (form_step d m x D g k (derived_sound d x D k dk) ne dg dk)

  pub only_form : (m : Member) (C : Member → Bool) (f : F) → IsForm d m C f → IsOnlyFormAt d.inclusion.over d.family m C f
  only_form m C f df = (df, λ g dg. derived_once m C g f dg df)

  -- the one form is the one form over every family with these members, base contexts and base forms, listed in any order
  pub only_form_moves : (c : Family F) → Holds d.family c → Holds c d.family → (m : Member) (C : Member → Bool) (f : F)
      → IsOnlyFormAt d.inclusion.over d.family m C f → IsOnlyFormAt d.inclusion.over c m C f
  only_form_moves c h k m C f o =
      (derived_moves d.inclusion.over d.family c h m C f o.0, λ g dg. o.1 g (derived_moves d.inclusion.over c d.family k m C g dg))
