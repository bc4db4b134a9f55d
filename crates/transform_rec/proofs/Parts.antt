-- The cells of a closed part are, in order, what the members of the part alone give.
use Rattle.std.proofs.Common.{◌≡◌, ℕ, ◌+◌, ◌≤◌, Bool, true, false, not, List, [], ◌∷◌, ◌++◌, length, take, drop, filter, ◌⊎◌, inl, inr, refl, sym, ap, subst, ◌∙◌, arith, take-append-drop, length-take-le}
use Rattle.std.proofs.lemmas.Bool.{cases_Bool, both_ways, not-true, not_from_false}
use Rattle.op_name.specs.NameData.{NameData}
use Rattle.op_name.specs.declared.member.Member.{Member}
use Rattle.op_name.specs.declared.member.Member.TheVariants.{Original}
use Rattle.transform_rec.specs.Sets.{none, IsSubset, SameSet, plus, meet, plus_all}
use Rattle.ttf_form.specs.Families.{IsIn}
use Rattle.transform_rec.specs.Lists.{SameElements}
use Rattle.transform_rec.proofs.Counting.{count, EachAt}
use Rattle.transform_rec.specs.Family.{IsClosed}
use Rattle.transform_rec.specs.Derived.{weight}
use Rattle.transform_rec.specs.Executing.{Setting, AddsAtPlace, deriving_of, keep, own}
use Rattle.op_name.proofs.CallerLemmas.{member_apart}
use Rattle.transform_rec.proofs.Lists.{in_left, in_right, in_cases, in_filter, filter_in, filter_all, filter_put, before_each, count_own}
use Rattle.transform_rec.proofs.Sets.{same_set, same_from, plus_here, plus_keeps, plus_cases, all_keeps, all_in, all_cases}
use Rattle.transform_rec.proofs.Families.{closed_plus}
use Rattle.transform_rec.proofs.Forms.{derived_sound, derived_bounded, form_moves}
use Rattle.transform_rec.proofs.Executing.{IsForm, Run, Forms, run, At, added_own, added_owner, addable_fits, state_more, state_after, run_forms, forms_run, forms-append, run_append, run_closed}
use Rattle.transform_rec.proofs.CausalLists.{causal_filter, causal_part, causal_rest}
use Rattle.transform_rec.proofs.Order.{any_order}

module _ {F S : Type 0} (w : Setting F S) where
  -- ---- the part of a causal list in a set, and the rest

  pub filter_run : (D : Member → Bool) → ((x : Member) → D x ≡ true → IsSubset (w.family.context x) D)
      → (xs : List Member) (C E : Member → Bool) → SameSet E (meet C D) → Run w C xs → Run w E (filter D xs)
  filter_run D closed xs C E h r = causal_filter w.family D closed xs C E h r

  pub part_run : (D : Member → Bool) → ((x : Member) → D x ≡ true → IsSubset (w.family.context x) D)
      → (xs : List Member) (C : Member → Bool) → IsSubset C D → Run w C xs → Run w C (filter D xs)
  part_run D closed xs C h r = causal_part w.family D closed xs C h r

  pub rest_run : (D : Member → Bool) (xs : List Member) (C K : Member → Bool) → IsClosed w.family K → IsSubset C K
      → ((z : Member) → IsIn z xs → D z ≡ true → K z ≡ true) → ((z : Member) → IsIn z xs → K z ≡ true → D z ≡ true) → Run w C xs
      → Run w K (filter (λ z. not (D z)) xs)
  rest_run D xs C K k h f g r = causal_rest w.family D xs C K k h f g r

  -- ---- restriction

  -- members outside of K leave the cells of K
  pub kept_cells : (K : Member → Bool) (xs : List Member) (C : Member → Bool) (s : S) (fs : List F) → At w C s → Forms w C xs fs
      → ((z : Member) → IsIn z xs → K z ≡ false) → filter (keep K) (w.table.cells (run w s fs)) ≡ filter (keep K) (w.table.cells s)
  kept_cells K [] C s [] st df h = refl
  kept_cells K [] C s (f ∷ fs) st df h = absurd df
  kept_cells K (x ∷ xs) C s [] st df h = absurd df
  kept_cells K (x ∷ xs) C s (f ∷ fs) st df h =
      let put = w.laws.kept s f (addable_fits w C s x f st df.0) in
      let foreign : (c : NameData × ℕ) → IsIn c (w.table.added f) → keep K c ≡ false =
      λ c i. subst (λ (y : Member). K y ≡ false) (added_owner w x C f df.0 c i) (h x (inl refl)) in
      let one : filter (keep K) (w.table.cells (w.table.apply s f)) ≡ filter (keep K) (w.table.cells s) =
      ap (filter (keep K)) put.is ∙ filter_put (keep K) put.at (w.table.cells s) (w.table.added f) foreign in
      kept_cells K xs (plus C x) (w.table.apply s f) fs (state_more w C s x f st df.0) df.1 (λ z i. h z (inr i)) ∙ one

  sorted_same : (D : Member → Bool) (xs : List Member) → SameElements xs (filter D xs ++ filter (λ z. not (D z)) xs)
  sorted_same D xs = record {
    forth = λ z i. elim (cases_Bool (D z)) [
      | inl d ↦ in_left z (filter D xs) (filter (λ y. not (D y)) xs) (in_filter D z xs i d)
      | inr d ↦
          in_right z (filter D xs) (filter (λ y. not (D y)) xs) (in_filter (λ y. not (D y)) z xs i (not_from_false (D z) d))
    ];
    back = λ z i. elim (in_cases z (filter D xs) (filter (λ y. not (D y)) xs) i)
        [ inl a ↦ (filter_in D z xs a).0 | inr a ↦ (filter_in (λ y. not (D y)) z xs a).0 ];
  }

  restricted_by : (D : Member → Bool) → (xs : List Member) (C : Member → Bool) (s : S) (fs gs : List F) → IsClosed w.family C → At w C s
      → IsSubset C D → Forms w C xs fs → Forms w C (filter D xs) gs
      → filter (keep D) (w.table.cells (run w s fs)) ≡ w.table.cells (run w s gs)
  restricted_by D xs C s fs gs c st h df dg =
      let K = plus_all C (filter D xs) in
      let in_d : IsSubset K D =
      λ (z : Member) (i : K z ≡ true). elim (all_cases (filter D xs) C z i) [ inl a ↦ h z a | inr j ↦ (filter_in D z xs j).1 ] in
      let k = run_closed w (filter D xs) C c (forms_run w (filter D xs) C gs dg) in
      let rest =
      rest_run D xs C K k (all_keeps (filter D xs) C) (λ z i e. all_in (filter D xs) C z (in_filter D z xs i e)) (λ z i e. in_d z e)
      (forms_run w xs C fs df) in
      let hs = run_forms w (filter (λ z. not (D z)) xs) K rest in
      let both = forms-append w (filter D xs) (filter (λ z. not (D z)) xs) C gs hs.0 dg hs.1 in
      let order = any_order w xs (filter D xs ++ filter (λ z. not (D z)) xs) C s fs (gs ++ hs.0) st (sorted_same D xs) df both in
      let t = state_after w (filter D xs) C s gs st dg in
      let kept =
      kept_cells D (filter (λ z. not (D z)) xs) K (run w s gs) hs.0 t hs.1
      (λ z i. not-true (D z) (filter_in (λ y. not (D y)) z xs i).1) in
      let all = filter_all (keep D) (w.table.cells (run w s gs)) (λ c i. in_d (Original c.0) (t.names c i)) in
      ap (λ u. filter (keep D) (w.table.cells u)) (order ∙ run_append w s gs hs.0) ∙ (kept ∙ all)

  -- the cells of a closed part D are those that the members of D alone give
  pub restricted : (D : Member → Bool) (xs : List Member) (C : Member → Bool) (s : S) (fs gs : List F) → At w C s → IsSubset C D
      → Forms w C xs fs → Forms w C (filter D xs) gs → filter (keep D) (w.table.cells (run w s fs)) ≡ w.table.cells (run w s gs)
  restricted D [] C s [] [] st h df dg = filter_all (keep D) (w.table.cells s) (λ c i. h (Original c.0) (st.names c i))
  restricted D [] C s [] (g ∷ gs) st h df dg = absurd dg
  restricted D [] C s (f ∷ fs) gs st h df dg = absurd df
  restricted D (x ∷ xs) C s fs gs st h df dg = restricted_by D (x ∷ xs) C s fs gs (forms_run w (x ∷ xs) C fs df).0.set st h df dg

  -- ---- one more member

  -- the cells of D in the state after the forms
  abbrev pub part : (Member → Bool) → S → List F → List (NameData × ℕ)
  part D s fs = filter (keep D) (w.table.cells (run w s fs))

  one_more_same : (D : Member → Bool) (x : Member) (xs : List Member) → IsIn x xs
      → SameElements (filter (plus D x) xs) (filter D xs ++ (x ∷ []))
  one_more_same D x xs i = record {
    forth = λ z j. let r =
        filter_in (plus D x) z xs j in elim (plus_cases D x z r.1)
        [ inl a ↦ in_left z (filter D xs) (x ∷ []) (in_filter D z xs r.0 a) | inr e ↦ in_right z (filter D xs) (x ∷ []) (inl (sym e)) ];
    back = λ z j. elim (in_cases z (filter D xs) (x ∷ []) j) [
      | inl a ↦ let r = filter_in D z xs a in
          in_filter (plus D x) z xs r.0 (plus_keeps D x z r.1)
      | inr (inl e) ↦
          in_filter (plus D x) z xs (subst (λ (y : Member). IsIn y xs) (sym e) i)
          (subst (λ (y : Member). plus D x y ≡ true) (sym e) (plus_here D x))
      | inr (inr none_left) ↦ absurd none_left
    ];
  }

  -- D is the first set with the members of D in the list
  part_set : (D : Member → Bool) (xs : List Member) (C : Member → Bool) → IsSubset C D
      → ((z : Member) → D z ≡ true → (C z ≡ true) ⊎ IsIn z xs) → SameSet D (plus_all C (filter D xs))
  part_set D xs C h g = same_from D (plus_all C (filter D xs))
      (λ z i. elim (g z i) [ inl a ↦ all_keeps (filter D xs) C z a | inr j ↦ all_in (filter D xs) C z (in_filter D z xs j i) ])
      (λ z i. elim (all_cases (filter D xs) C z i) [ inl a ↦ h z a | inr j ↦ (filter_in D z xs j).1 ])

  -- the cells of D are those of a state at D
  pub part_state : (D : Member → Bool) (xs : List Member) (C : Member → Bool) (s : S) (fs : List F)
      → ((x : Member) → D x ≡ true → IsSubset (w.family.context x) D) → At w C s → Forms w C xs fs → IsSubset C D
      → ((z : Member) → D z ≡ true → (C z ≡ true) ⊎ IsIn z xs) → (t : S) × At w D t × (part D s fs ≡ w.table.cells t)
  part_state D xs C s fs closed st df h g =
      let gs = run_forms w (filter D xs) C (part_run D closed xs C h (forms_run w xs C fs df)) in
      let t = state_after w (filter D xs) C s gs.0 st gs.1 in (
        run w s gs.0,
        subst (λ (E : Member → Bool). At w E (run w s gs.0))
            (sym (same_set D (plus_all C (filter D xs)) (part_set D xs C h g))) t,
        restricted D xs C s fs gs.0 st h df gs.1,
      )

  pub one_more_from : AddsAtPlace w.table
      → (D : Member → Bool) (x : Member) (k : F) (xs : List Member) (C : Member → Bool) (s : S) (fs : List F) → At w C s → Forms w C xs fs
      → IsSubset C D → ((z : Member) → D z ≡ true → (C z ≡ true) ⊎ IsIn z xs) → IsIn x xs → IsForm w x D k
      → part (plus D x) s fs ≡ take (w.table.inclusion.place k) (part D s fs)
      ++ (w.table.added k ++ drop (w.table.inclusion.place k) (part D s fs))
  one_more_from at_place D x k xs C s fs st df h g i dk =
      let sound = derived_sound (deriving_of w) x D k dk in
      let r = forms_run w xs C fs df in
      let gs = run_forms w (filter D xs) C (part_run D sound.set.closed xs C h r) in
      let part_d = restricted D xs C s fs gs.0 st h df gs.1 in
      let wider : IsSubset C (plus D x) = λ (z : Member) (j : C z ≡ true). plus_keeps D x z (h z j) in
      let hs = run_forms w (filter (plus D x) xs) C (part_run (plus D x) (closed_plus w.family x D sound).closed xs C wider r) in
      let part_x = restricted (plus D x) xs C s fs hs.0 st wider df hs.1 in
      let K = plus_all C (filter D xs) in
      let k_at = form_moves (deriving_of w) x D K k (part_set D xs C h g) dk in
      let ends = forms-append w (filter D xs) (x ∷ []) C gs.0 (k ∷ []) gs.1 (k_at, tt) in
      let order =
      any_order w (filter (plus D x) xs) (filter D xs ++ (x ∷ [])) C s hs.0 (gs.0 ++ (k ∷ [])) st (one_more_same D x xs i) hs.1 ends in
      let t = state_after w (filter D xs) C s gs.0 st gs.1 in
      let whole = at_place (run w s gs.0) k (addable_fits w K (run w s gs.0) x k t k_at) in
      part_x ∙ (ap w.table.cells (order ∙ run_append w s gs.0 (k ∷ []))
      ∙ (whole ∙ ap (λ l. take (w.table.inclusion.place k) l ++ (w.table.added k ++ drop (w.table.inclusion.place k) l)) (sym part_d)))

  -- ---- before a cell

  -- the place of a form at D is within the cells of D
  pub place_within : (D : Member → Bool) (x : Member) (k : F) (xs : List Member) (C : Member → Bool) (s : S) (fs : List F) → At w C s
      → Forms w C xs fs → IsSubset C D → ((z : Member) → D z ≡ true → (C z ≡ true) ⊎ IsIn z xs) → IsForm w x D k
      → w.table.inclusion.place k ≤ length (part D s fs)
  place_within D x k xs C s fs st df h g dk =
      let sound = derived_sound (deriving_of w) x D k dk in
      let t = part_state D xs C s fs sound.set.closed st df h g in
      let long : length (part D s fs) ≡ weight w.table.inclusion w.family D = ap length t.2 ∙ t.1.weighs in
      let place = w.laws.inclusion.bound_place k (weight w.table.inclusion w.family D) (derived_bounded (deriving_of w) x D k dk) in
      omega arith

  -- each cell of x has as many cells of D before it as the place of x's form at D, and x has as many cells as the extent of that form
  pub before_cell_from : AddsAtPlace w.table
      → (D : Member → Bool) (x : Member) (k : F) (xs : List Member) (C : Member → Bool) (s : S) (fs : List F) → At w C s → Forms w C xs fs
      → IsSubset C D → ((z : Member) → D z ≡ true → (C z ≡ true) ⊎ IsIn z xs) → IsIn x xs → IsForm w x D k
      → EachAt (keep D) (own x) (w.table.inclusion.place k) 0 (w.table.cells (run w s fs))
      × (count (own x) (w.table.cells (run w s fs)) ≡ w.table.inclusion.extent k)
  before_cell_from at_place D x k xs C s fs st df h g i dk =
      let sound = derived_sound (deriving_of w) x D k dk in
      let cs = w.table.cells (run w s fs) in
      let q = w.table.inclusion.place k in
      let apart : (c : NameData × ℕ) → keep D c ≡ true → own x c ≡ false =
      λ c e. member_apart x (Original c.0)
      (λ (p : x ≡ Original c.0). both_ways (D x) sound.lacks (subst (λ (y : Member). D y ≡ true) (sym p) e)) in
      let mine : (c : NameData × ℕ) → IsIn c (w.table.added k) → own x c ≡ true = λ c j. added_own w x D k dk c j in
      let parts : filter (keep D) cs ≡ take q (part D s fs) ++ drop q (part D s fs) = sym (take-append-drop q (part D s fs)) in
      let more = one_more_from at_place D x k xs C s fs st df h g i dk in
      let long : 0 + length (take q (part D s fs)) ≡ q =
      let e = length-take-le q (part D s fs) (place_within D x k xs C s fs st df h g dk) in omega arith in (
        before_each (keep D) (own x) apart q (drop q (part D s fs)) cs (take q (part D s fs)) (w.table.added k) 0 mine parts more long,
        count_own (keep D) (own x) apart cs (take q (part D s fs)) (w.table.added k) (drop q (part D s fs)) parts more
            ∙ w.laws.added_length k,
      )

  -- ---- from the empty set

  nothing : (D : Member → Bool) → IsSubset none D
  nothing D z e = absurd (both_ways false refl e)

  pub one_more : AddsAtPlace w.table → (D : Member → Bool) (x : Member) (k : F) (xs : List Member) (s : S) (fs : List F) → At w none s
      → Forms w none xs fs → ((z : Member) → D z ≡ true → IsIn z xs) → IsIn x xs → IsForm w x D k
      → part (plus D x) s fs ≡ take (w.table.inclusion.place k) (part D s fs)
      ++ (w.table.added k ++ drop (w.table.inclusion.place k) (part D s fs))
  one_more at_place D x k xs s fs st df g i dk = one_more_from at_place D x k xs none s fs st df (nothing D) (λ z e. inr (g z e)) i dk

  pub before_cell : AddsAtPlace w.table → (D : Member → Bool) (x : Member) (k : F) (xs : List Member) (s : S) (fs : List F) → At w none s
      → Forms w none xs fs → ((z : Member) → D z ≡ true → IsIn z xs) → IsIn x xs → IsForm w x D k
      → EachAt (keep D) (own x) (w.table.inclusion.place k) 0 (w.table.cells (run w s fs))
      × (count (own x) (w.table.cells (run w s fs)) ≡ w.table.inclusion.extent k)
  before_cell at_place D x k xs s fs st df g i dk = before_cell_from at_place D x k xs none s fs st df (nothing D) (λ z e. inr (g z e)) i dk
