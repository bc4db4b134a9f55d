-- Sets that differ by inert members alone: a form is the same at both, and so is a row.
use Rattle.std.proofs.Common.{◌≡◌, ◌≢◌, Bool, true, false, not, ◌&&◌, inl, inr, List, [], ◌∷◌, refl, sym, subst}
use Rattle.std.proofs.lemmas.Bool.{cases_Bool, both_ways, and_parts, and_from, and_left, not-true}
use Rattle.op_name.specs.declared.member.Member.{Member}
use Rattle.ttf_form.specs.Families.{IsIn}
use Rattle.transform_rec.specs.Sets.{IsSubset, plus, meet, plus_all}
use Rattle.transform_rec.specs.Family.{IsClosed, IsSound}
use Rattle.transform_rec.specs.Derived.{Deriving}
use Rattle.transform_rec.specs.Executing.{IsCausalFrom}
use Rattle.transform_rec.proofs.CallerLemmas.{filter_in, plus_cases, plus_parts, plus_within, plus_both, closed_meet, closed_plus, form_moves, derived_sound, exists, difference_in, difference_run, difference_whole, derived_once}
use Rattle.form_rows.proofs.DerivedForms.{IsForm}
use Rattle.form_rows.specs.RowSets.{Inertness}
use Rattle.form_rows.proofs.Passing.{Row, inert_more, row_known, row_inert, row_cases}

not_other : (a b : Bool) → a ≡ true → (a && b) ≡ false → b ≡ false
not_other true b h e = e
not_other false b h e = absurd (both_ways false refl h)

not_one : (a b : Bool) → b ≡ true → (a && b) ≡ false → a ≡ false
not_one true true h e = e
not_one true false h e = absurd (both_ways false refl h)
not_one false b h e = refl

module _ {F : Type 0} (d : Deriving F) (IsInert : F → Type 0) (n : Inertness d.inclusion.over IsInert) where
  inert_up : (m : Member) (xs : List Member) (C : Member → Bool) (f : F) → ((z : Member) → IsIn z xs → (m ≢ z) × IsInert (d.family.form z))
      → IsCausalFrom d.family C xs → IsForm d m C f → IsForm d m (plus_all C xs) f
  inert_up m [] C f h r df = df
  inert_up m (x ∷ xs) C f h r df =
      let k = exists d x C r.0 in
      let i = h x (inl refl) in
      inert_up m xs (plus C x) f (λ z j. h z (inr j)) r.1 (inert_more d IsInert n m x C f k.0 i.0 i.1 k.1 df)

  up_to : (m : Member) (C T : Member → Bool) (f : F) → IsClosed d.family C → IsSound d.family m T → IsSubset C T
      → ((z : Member) → T z ≡ true → C z ≡ false → IsInert (d.family.form z)) → IsForm d m C f → IsForm d m T f
  up_to m C T f c t h i df =
      let xs = difference_in d.family.members C T in
      let each : (z : Member) → IsIn z xs → (m ≢ z) × IsInert (d.family.form z) = λ z j.
      let r = and_parts (T z) (not (C z)) (filter_in (λ y. T y && not (C y)) z d.family.members j).1 in
      ((λ e. both_ways (T m) t.lacks (subst (λ (y : Member). T y ≡ true) (sym e) r.0)), i z r.0 (not-true (C z) r.1)) in
      form_moves d m (plus_all C xs) T f (difference_whole d C T t.set h) (inert_up m xs C f each (difference_run d C T c t.set h) df)

  -- the two sets differ by inert members alone
  pub record AreAlike (C E : Member → Bool) : Type 0 where
    pub left : (z : Member) → C z ≡ true → E z ≡ false → IsInert (d.family.form z)
    pub right : (z : Member) → E z ≡ true → C z ≡ false → IsInert (d.family.form z)

  -- a form at one is a form at the other
  pub form_alike : (m : Member) (C E : Member → Bool) (f : F) → AreAlike C E → IsSound d.family m C → IsSound d.family m E → IsForm d m C f
      → IsForm d m E f
  form_alike m C E f a sc se df =
      let M = meet C E in
      let sm : IsSound d.family m M =
      record {
        listed = sc.listed;
        covers = λ z i. and_from (C z) (E z) (sc.covers z i) (se.covers z i);
        set =
            closed_meet d.family C E sc.set se.set.closed;
        lacks = and_left (C m) (E m) sc.lacks;
      } in
      let g = exists d m M sm in
      let at_c : IsForm d m C g.0 =
      up_to m M C g.0 sm.set sc (λ z i. (and_parts (C z) (E z) i).0) (λ z i o. a.left z i (not_other (C z) (E z) i o)) g.1 in
      let at_e : IsForm d m E g.0 =
      up_to m M E g.0 sm.set se (λ z i. (and_parts (C z) (E z) i).1) (λ z i o. a.right z i (not_one (C z) (E z) i o)) g.1 in
      subst (λ (h : F). IsForm d m E h) (derived_once d m C g.0 f at_c df) at_e

  both_plus : (C E : Member → Bool) (x : Member) → AreAlike C E → AreAlike (plus C x) (plus E x)
  both_plus C E x a = record {
    left = λ z i o. let q = plus_parts E x z o in elim (plus_cases C x z i) [ inl c ↦ a.left z c q.0 | inr e ↦ absurd (q.1 e) ];
    right = λ z i o. let q = plus_parts C x z o in elim (plus_cases E x z i) [ inl c ↦ a.right z c q.0 | inr e ↦ absurd (q.1 e) ];
  }

  left_plus : (C E : Member → Bool) (x : Member) → E x ≡ true → AreAlike C E → AreAlike (plus C x) E
  left_plus C E x h a = record {
    left = λ z i o. elim (plus_cases C x z i)
        [ inl c ↦ a.left z c o | inr e ↦ absurd (both_ways (E z) o (subst (λ (y : Member). E y ≡ true) e h)) ];
    right = λ z i o. a.right z i (plus_parts C x z o).0;
  }

  right_plus : (C E : Member → Bool) (x : Member) → C x ≡ true → AreAlike C E → AreAlike C (plus E x)
  right_plus C E x h a = record {
    left = λ z i o. a.left z i (plus_parts E x z o).0;
    right = λ z i o. elim (plus_cases E x z i)
        [ inl c ↦ a.right z c o | inr e ↦ absurd (both_ways (C z) o (subst (λ (y : Member). C y ≡ true) e h)) ];
  }

  -- the list may be added to K, which both sets hold; the sets are closed, and differ by inert members alone
  pub record AreOver (K C E : Member → Bool) (xs : List Member) : Type 0 where
    pub path : IsCausalFrom d.family K xs
    pub left : IsSubset K C
    pub right : IsSubset K E
    pub one : IsClosed d.family C
    pub other : IsClosed d.family E
    pub alike : AreAlike C E

  sound_over : (K C : Member → Bool) (x : Member) → IsSound d.family x K → IsSubset K C → IsClosed d.family C → C x ≡ false
      → IsSound d.family x C
  sound_over K C x s h c out = record { listed = s.listed; covers = λ z i. h z (s.covers z i); set = c; lacks = out }

  -- a row of the one is a row of the other
  pub row_alike : (xs : List Member) (K C E : Member → Bool) (fs : List F) → AreOver K C E xs → Row d IsInert n C xs fs
      → Row d IsInert n E xs fs
  row_alike [] K C E [] o r = tt
  row_alike [] K C E (f ∷ fs) o r = absurd r
  row_alike (x ∷ xs) K C E fs o r =
      let s = o.path.0 in
      elim (cases_Bool (E x)) [
        | inl there ↦ elim (row_cases d IsInert n x C xs fs r) [
          | inl a ↦ row_known d IsInert n x E xs fs there
              (row_alike xs (plus K x) C E fs
              (record {
                path = o.path.1;
                left = plus_within K C x o.left a.0;
                right = plus_within K E x o.right there;
                one = o.one;
                other =
                    o.other;
                alike = o.alike;
              }) a.1)
          | inr (inl q) ↦ row_known d IsInert n x E xs fs there
              (row_alike xs (plus K x) (plus C x) E fs
              (record {
                path = o.path.1;
                left = plus_both K C x o.left;
                right = plus_within K E x o.right there;
                one =
                    closed_plus d.family x C (derived_sound d x C q.0.1.0 q.0.1.1);
                other = o.other;
                alike = left_plus C E x there o.alike;
              }) q.1)
          | inr (inr k) ↦ absurd (k.other (o.alike.right x there (derived_sound d x C k.first k.form).lacks))
        ]
        | inr out ↦ let se = sound_over K E x s o.right o.other out in
            elim (row_cases d IsInert n x C xs fs r) [
              | inl a ↦ let g = exists d x E se in
                  row_inert d IsInert n x E xs fs g.0 (o.alike.left x a.0 out) g.1
                  (row_alike xs (plus K x) C (plus E x) fs
                  (record {
                    path = o.path.1;
                    left = plus_within K C x o.left a.0;
                    right = plus_both K E x o.right;
                    one = o.one;
                    other =
                        closed_plus d.family x E se;
                    alike = right_plus C E x a.0 o.alike;
                  }) a.1)
              | inr (inl q) ↦ let g = exists d x E se in
                  row_inert d IsInert n x E xs fs g.0 q.0.0 g.1
                  (row_alike xs (plus K x) (plus C x) (plus E x) fs
                  (record {
                    path = o.path.1;
                    left = plus_both K C x o.left;
                    right = plus_both K E x o.right;
                    one =
                        closed_plus d.family x C (derived_sound d x C q.0.1.0 q.0.1.1);
                    other = closed_plus d.family x E se;
                    alike =
                        both_plus C E x o.alike;
                  }) q.1)
              | inr (inr k) ↦ let sc = derived_sound d x C k.first k.form in
                  let same : IsForm d x E k.first = form_alike x C E k.first o.alike sc se k.form in
                  let tail =
                  row_alike xs (plus K x) (plus C x) (plus E x) k.rest
                  (record {
                    path = o.path.1;
                    left = plus_both K C x o.left;
                    right = plus_both K E x o.right;
                    one =
                        closed_plus d.family x C sc;
                    other = closed_plus d.family x E se;
                    alike = both_plus C E x o.alike;
                  }) k.row in
                  subst (λ (l : List F). Row d IsInert n E (x ∷ xs) l) (sym k.is) (inr (inr ((k.other, same), tail)))
            ]
      ]
