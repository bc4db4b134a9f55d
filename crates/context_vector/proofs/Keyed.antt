-- Lists of pairs whose keys rise, under any order of keys: what a search, a write, an insert and a removal do to the value of a key.
use Rattle.std.proofs.Common.{◌≡◌, ℕ, zero, suc, ◌+◌, ◌<◌, ◌≤◌, Bool, true, false, List, [], ◌∷◌, length, get_or, set, if◌then◌else◌, refl, sym, ap, subst, ◌∙◌, inl, inr, arith}
use Rattle.std.specs.List.{insert, remove}
use mathlib.Core.Bool.{false≢true}
use Rattle.std.proofs.Common.{Some, None}
use Rattle.std.proofs.lemmas.Bool.{cases_lt, lt-ltb, le-ltb}
use Rattle.context_vector.specs.Code.Places.{IsPlace, IsGap}
use Rattle.context_vector.specs.Shortfalls.{first_short}
use Rattle.op_name.specs.Order.{IsOrder}
use Rattle.op_name.proofs.CallerLemmas.{cases_by_order}

some_not_none : {X : Type 0} (x : X) (P : Type 0) → Some x ≡ None → P
some_not_none x P e = cc

one_either : (t : Bool) (z : ℕ) → z ≡ (if t then z else z)
one_either true z = refl
one_either false z = refl

module _ {K : Type 0} (eq lt : K → K → Bool) where
  -- the value of the first pair that has the key, 0 if none has
  abbrev pub value_at : List (K × ℕ) → K → ℕ
  value_at [] k = 0
  value_at (p ∷ ps) k = if eq p.0 k then p.1 else value_at ps k

  abbrev pub put_at : K → ℕ → List (K × ℕ) → List (K × ℕ)
  put_at k v [] = (k, v) ∷ []
  put_at k v (p ∷ ps) = if eq p.0 k then (k, v) ∷ ps else if lt k p.0 then (k, v) ∷ (p ∷ ps) else p ∷ put_at k v ps

  abbrev pub take_out : K → List (K × ℕ) → List (K × ℕ)
  take_out k [] = []
  take_out k (p ∷ ps) = if eq p.0 k then ps else p ∷ take_out k ps

  -- each key of the list is after this one
  abbrev pub AllAfter : K → List (K × ℕ) → Type 0
  AllAfter k [] = Unit {0}
  AllAfter k (p ∷ ps) = (lt k p.0 ≡ true) × AllAfter k ps

  -- the keys rise and no value is 0
  abbrev pub IsRising : List (K × ℕ) → Type 0
  IsRising [] = Unit {0}
  IsRising (p ∷ ps) = (1 ≤ p.1) × AllAfter p.0 ps × IsRising ps

  module _ (order : IsOrder eq lt) where
    -- a key after all of which the list's keys come is not in it
    pub value_after : (k : K) (ps : List (K × ℕ)) → AllAfter k ps → value_at ps k ≡ 0
    value_after k [] after = refl
    value_after k (p ∷ ps) after =
        cases_by_order eq lt order p.0 k _
        (λ is e e' l l'. absurd (false≢true (sym l' ∙ after.0)))
        (λ e e' l l'. absurd (false≢true (sym l' ∙ after.0)))
        (λ e e' l l'. rw e (value_after k ps after.1))

    pub after_trans : (j k : K) (ps : List (K × ℕ)) → lt j k ≡ true → AllAfter k ps → AllAfter j ps
    after_trans j k [] less after = tt
    after_trans j k (p ∷ ps) less after = (order.transitive j k p.0 less after.0, after_trans j k ps less after.1)

    pub value_put : (k : K) (v : ℕ) (ps : List (K × ℕ)) (j : K) → value_at (put_at k v ps) j ≡ (if eq k j then v else value_at ps j)
    value_put k v [] j = refl
    value_put k v (p ∷ ps) j =
        cases_by_order eq lt order p.0 k _
        (λ is e e' l l'. rw e (subst (λ x. value_at ((k, v) ∷ ps) j ≡ (if eq k j then v else if eq x j then p.1 else value_at ps j))
        (sym is) (same_key k v p.1 (value_at ps j) j)))
        (λ e e' l l'. rw (e, l') (cases_by_order eq lt order p.0 j _
        (λ is f f' m m'. rw (f, subst (λ x. eq k x ≡ false) is e') refl)
        (λ f f' m m'. rw f (value_put k v ps j))
        (λ f f' m m'. rw f (value_put k v ps j))))
        (λ e e' l l'. rw (e, l') refl)
      where
        same_key : (k : K) (v a b : ℕ) (j : K) → (if eq k j then v else b) ≡ (if eq k j then v else if eq k j then a else b)
        same_key k v a b j =
            elim (eq k j) as (λ t. (if t then v else b) ≡ (if t then v else if t then a else b)) [ true ↦ refl | false ↦ refl ]

    -- a first pair with another key stays
    kept_first : (k : K) (p : K × ℕ) (ps qs : List (K × ℕ)) → eq k p.0 ≡ false → (j : K)
        → value_at qs j ≡ (if eq k j then 0 else value_at ps j) → value_at (p ∷ qs) j ≡ (if eq k j then 0 else value_at (p ∷ ps) j)
    kept_first k p ps qs e' j rest = cases_by_order eq lt order p.0 j _
        (λ is f f' m m'. rw (f, subst (λ x. eq k x ≡ false) is e') refl)
        (λ f f' m m'. rw f rest)
        (λ f f' m m'. rw f rest)

    pub value_take_out : (k : K) (ps : List (K × ℕ)) → IsRising ps → (j : K)
        → value_at (take_out k ps) j ≡ (if eq k j then 0 else value_at ps j)
    value_take_out k [] rising j = one_either (eq k j) 0
    value_take_out k (p ∷ ps) rising j =
        cases_by_order eq lt order p.0 k _
        (λ is e e' l l'. rw e (cases_by_order eq lt order k j _
        (λ at f f' m m'. rw f (subst (λ x. value_at ps x ≡ 0) (is ∙ at) (value_after p.0 ps rising.1)))
        (λ f f' m m'. rw (f, subst (λ x. eq x j ≡ false) (sym is) f) refl)
        (λ f f' m m'. rw (f, subst (λ x. eq x j ≡ false) (sym is) f) refl)))
        (λ e e' l l'. rw e (kept_first k p ps (take_out k ps) e' j (value_take_out k ps rising.2 j)))
        (λ e e' l l'. rw e (kept_first k p ps (take_out k ps) e' j (value_take_out k ps rising.2 j)))

    pub after_take_out : (j k : K) (ps : List (K × ℕ)) → AllAfter j ps → AllAfter j (take_out k ps)
    after_take_out j k [] after = tt
    after_take_out j k (p ∷ ps) after =
        elim (eq p.0 k) as (λ t. AllAfter j (if t then ps else p ∷ take_out k ps)) [
          | true ↦ after.1
          | false ↦ (after.0, after_take_out j k ps after.1)
        ]

    -- the key at a place after the first of a rising list is after the first
    pub later_key : (k : K) (ps : List (K × ℕ)) → AllAfter k ps → (i : ℕ) (d : K × ℕ) → i < length ps → lt k (get_or ps i d).0 ≡ true
    later_key k [] after i d within = absurd (omega arith)
    later_key k (p ∷ ps) after zero d within = after.0
    later_key k (p ∷ ps) after (suc i) d within = later_key k ps after.1 i d (omega arith)

    tail_place : (p : K × ℕ) (ps : List (K × ℕ)) (k : K) (i : ℕ) → IsPlace (p ∷ ps) k (suc i) → IsPlace ps k i
    tail_place p ps k i place = record { within = omega (arith, place.within); key = λ d. place.key d }

    first_less : (p : K × ℕ) (ps : List (K × ℕ)) → IsRising (p ∷ ps) → (k : K) (i : ℕ) → IsPlace (p ∷ ps) k (suc i) → lt p.0 k ≡ true
    first_less p ps rising k i place =
        subst (λ x. lt p.0 x ≡ true) (place.key p) (later_key p.0 ps rising.1 i p (omega (arith, place.within)))

    first_differs : (p : K × ℕ) (ps : List (K × ℕ)) → IsRising (p ∷ ps) → (k : K) (i : ℕ) → IsPlace (p ∷ ps) k (suc i)
        → (eq p.0 k ≡ false) × (lt k p.0 ≡ false)
    first_differs p ps rising k i place =
        cases_by_order eq lt order p.0 k _
        (λ is e e' l l'. absurd (false≢true (sym l ∙ first_less p ps rising k i place)))
        (λ e e' l l'. (e, l'))
        (λ e e' l l'. absurd (false≢true (sym l ∙ first_less p ps rising k i place)))

    first_is : (p : K × ℕ) (ps : List (K × ℕ)) (k : K) → IsPlace (p ∷ ps) k 0 → eq p.0 k ≡ true
    first_is p ps k place = subst (λ x. eq x k ≡ true) (sym (place.key p)) (order.itself k)

    -- what stands at the place of a key, and what a write and a removal there make
    pub value_is : (ps : List (K × ℕ)) → IsRising ps → (k : K) (i : ℕ) → IsPlace ps k i → (d : K × ℕ) → value_at ps k ≡ (get_or ps i d).1
    value_is [] rising k i place d = absurd (omega (arith, place.within))
    value_is (p ∷ ps) rising k zero place d = rw (first_is p ps k place) refl
    value_is (p ∷ ps) rising k (suc i) place d =
        rw (first_differs p ps rising k i place).0 (value_is ps rising.2 k i (tail_place p ps k i place) d)

    pub put_is_set : (ps : List (K × ℕ)) → IsRising ps → (k : K) (v : ℕ) (i : ℕ) → IsPlace ps k i → put_at k v ps ≡ set ps i (k, v)
    put_is_set [] rising k v i place = absurd (omega (arith, place.within))
    put_is_set (p ∷ ps) rising k v zero place = rw (first_is p ps k place) refl
    put_is_set (p ∷ ps) rising k v (suc i) place =
        let differs = first_differs p ps rising k i place in
        rw (differs.0, differs.1) (ap (λ qs. p ∷ qs) (put_is_set ps rising.2 k v i (tail_place p ps k i place)))

    pub take_out_is_remove : (ps : List (K × ℕ)) → IsRising ps → (k : K) (i : ℕ) → IsPlace ps k i → take_out k ps ≡ remove ps i
    take_out_is_remove [] rising k i place = absurd (omega (arith, place.within))
    take_out_is_remove (p ∷ ps) rising k zero place = rw (first_is p ps k place) refl
    take_out_is_remove (p ∷ ps) rising k (suc i) place =
        rw (first_differs p ps rising k i place).0 (ap (λ qs. p ∷ qs) (take_out_is_remove ps rising.2 k i (tail_place p ps k i place)))

    tail_gap : (p : K × ℕ) (ps : List (K × ℕ)) (k : K) (i : ℕ) → IsGap lt (p ∷ ps) k (suc i) → IsGap lt ps k i
    tail_gap p ps k i gap = record {
      within = omega (arith, gap.within);
      before = λ j d less. gap.before (suc j) d (omega arith);
      after = λ j d from within. gap.after (suc j) d (omega arith) (omega arith);
    }

    -- the first of the list is not the key, and on which side of it it stands
    first_in_gap : (p : K × ℕ) (ps : List (K × ℕ)) (k : K) → lt p.0 k ≡ true → (eq p.0 k ≡ false) × (lt k p.0 ≡ false)
    first_in_gap p ps k less =
        cases_by_order eq lt order p.0 k _
        (λ is e e' l l'. absurd (false≢true (sym l ∙ less)))
        (λ e e' l l'. (e, l'))
        (λ e e' l l'. absurd (false≢true (sym l ∙ less)))

    first_past_gap : (p : K × ℕ) (ps : List (K × ℕ)) (k : K) → lt k p.0 ≡ true → eq p.0 k ≡ false
    first_past_gap p ps k less =
        cases_by_order eq lt order p.0 k _
        (λ is e e' l l'. absurd (false≢true (sym l' ∙ less)))
        (λ e e' l l'. e)
        (λ e e' l l'. e)

    -- a key with a gap has no value, and an insert there puts one
    pub gap_value : (ps : List (K × ℕ)) (k : K) (i : ℕ) → IsGap lt ps k i → value_at ps k ≡ 0
    gap_value [] k i gap = refl
    gap_value (p ∷ ps) k zero gap =
        rw (first_past_gap p ps k (gap.after 0 p (omega arith) (omega arith)))
        (gap_value ps k 0 (record {
          within = omega arith;
          before = λ j d less. absurd (omega arith);
          after =
              λ j d from within. gap.after (suc j) d (omega arith) (omega arith);
        }))
    gap_value (p ∷ ps) k (suc i) gap =
        rw (first_in_gap p ps k (gap.before 0 p (omega arith))).0 (gap_value ps k i (tail_gap p ps k i gap))

    pub gap_put : (ps : List (K × ℕ)) (k : K) (v i : ℕ) → IsGap lt ps k i → put_at k v ps ≡ insert ps i (k, v)
    gap_put [] k v zero gap = refl
    gap_put [] k v (suc i) gap = refl
    gap_put (p ∷ ps) k v zero gap =
        let less = gap.after 0 p (omega arith) (omega arith) in
        rw (first_past_gap p ps k less, less) refl
    gap_put (p ∷ ps) k v (suc i) gap =
        let less = first_in_gap p ps k (gap.before 0 p (omega arith)) in
        rw (less.0, less.1) (ap (λ qs. p ∷ qs) (gap_put ps k v i (tail_gap p ps k i gap)))

    first_values : (p q : K × ℕ) (ps qs : List (K × ℕ)) → p.0 ≡ q.0 → ((k : K) → value_at (p ∷ ps) k ≡ value_at (q ∷ qs) k) → p.1 ≡ q.1
    first_values p q ps qs is same =
        let left : value_at (p ∷ ps) p.0 ≡ p.1 = rw (order.itself p.0) refl in
        let right : value_at (q ∷ qs) p.0 ≡ q.1 = rw (subst (λ x. eq q.0 x ≡ true) (sym is) (order.itself q.0)) refl in
        sym left ∙ (same p.0 ∙ right)

    -- a list that starts with a lesser key has a value where the other has none
    missing : (p q : K × ℕ) (ps qs : List (K × ℕ)) → IsRising (p ∷ ps) → IsRising (q ∷ qs) → lt p.0 q.0 ≡ true
        → ((k : K) → value_at (p ∷ ps) k ≡ value_at (q ∷ qs) k) → ⊥
    missing p q ps qs rising rising' less same =
        let left : value_at (p ∷ ps) p.0 ≡ p.1 = rw (order.itself p.0) refl in
        let right : value_at (q ∷ qs) p.0 ≡ 0 = value_after p.0 (q ∷ qs) (less, after_trans p.0 q.0 qs less rising'.1) in
        omega (arith, rising.0, sym left ∙ (same p.0 ∙ right))

    tail_values : (p q : K × ℕ) (ps qs : List (K × ℕ)) → p ≡ q → IsRising (p ∷ ps) → IsRising (q ∷ qs)
        → ((k : K) → value_at (p ∷ ps) k ≡ value_at (q ∷ qs) k) → (k : K) → value_at ps k ≡ value_at qs k
    tail_values p q ps qs heads rising rising' same k =
        cases_by_order eq lt order p.0 k _
        (λ is e e' l l'.
        value_after k ps (subst (λ x. AllAfter x ps) is rising.1)
        ∙ sym (value_after k qs (subst (λ x. AllAfter x qs) (sym (ap (λ (x : K × ℕ). x.0) heads) ∙ is) rising'.1)))
        (λ e e' l l'. past e)
        (λ e e' l l'. past e)
      where
        past : eq p.0 k ≡ false → value_at ps k ≡ value_at qs k
        past e =
            let e' : eq q.0 k ≡ false = subst (λ (x : K × ℕ). eq x.0 k ≡ false) heads e in
            let left : value_at (p ∷ ps) k ≡ value_at ps k = rw e refl in
            let right : value_at (q ∷ qs) k ≡ value_at qs k = rw e' refl in
            sym left ∙ (same k ∙ right)

    -- lists whose keys rise are one list where they give each key one value
    pub same_values : (ps qs : List (K × ℕ)) → IsRising ps → IsRising qs → ((k : K) → value_at ps k ≡ value_at qs k) → ps ≡ qs
    same_values [] [] rising rising' same = refl
    same_values [] (q ∷ qs) rising rising' same =
        absurd (omega (arith, rising'.0, let e : 0 ≡ q.1 = same q.0 ∙ rw (order.itself q.0) refl in e))
    same_values (p ∷ ps) [] rising rising' same =
        absurd (omega (arith, rising.0, let e : p.1 ≡ 0 = sym (rw (order.itself p.0) refl) ∙ same p.0 in e))
    same_values (p ∷ ps) (q ∷ qs) rising rising' same =
        cases_by_order eq lt order p.0 q.0 _
        (λ is e e' l l'.
        let values : p.1 ≡ q.1 = first_values p q ps qs is same in
        let heads : p ≡ q = λ i. (is i, values i) in
        let tails : ps ≡ qs = same_values ps qs rising.2 rising'.2 (tail_values p q ps qs heads rising rising' same) in
        λ i. heads i ∷ tails i)
        (λ e e' l l'. absurd (missing p q ps qs rising rising' l same))
        (λ e e' l l'. absurd (missing q p qs ps rising' rising l' (λ k. sym (same k))))

    -- where no key is short, no value is above what is had
    pub none_short : (had : K → ℕ) (ps : List (K × ℕ)) → first_short had ps ≡ None → (k : K) → value_at ps k ≤ had k
    none_short had [] none k = omega arith
    none_short had (p ∷ ps) none k =
        elim (cases_lt (had p.0) p.1) [
          | inl short ↦ some_not_none (p.0, had p.0 + 1) _ (sym (rw (lt-ltb (had p.0) p.1 short) refl) ∙ none)
          | inr enough ↦
              let rest : first_short had ps ≡ None = sym (rw (le-ltb (had p.0) p.1 enough) refl) ∙ none in
              cases_by_order eq lt order p.0 k _
              (λ is e e' l l'. rw e (subst (λ x. p.1 ≤ had x) is enough))
              (λ e e' l l'. rw e (none_short had ps rest k))
              (λ e e' l l'. rw e (none_short had ps rest k))
        ]

    -- the first short key has more than is had, and lesser keys have not
    pub record IsFirstShort (had : K → ℕ) (ps : List (K × ℕ)) (q : K × ℕ) : Type 0 where
      pub least : q.1 ≡ had q.0 + 1
      pub short : had q.0 < value_at ps q.0
      pub first : (k : K) → lt k q.0 ≡ true → value_at ps k ≤ had k

    here : (had : K → ℕ) (p : K × ℕ) (ps : List (K × ℕ)) → IsRising (p ∷ ps) → (q : K × ℕ) → had p.0 < p.1
        → Some (p.0, had p.0 + 1) ≡ Some q → IsFirstShort had (p ∷ ps) q
    here had p ps rising q short is =
        let at : q ≡ (p.0, had p.0 + 1) = cc in
        let goal : IsFirstShort had (p ∷ ps) (p.0, had p.0 + 1) = record {
          least = refl;
          short = rw (order.itself p.0) short;
          first = λ k less. rw (value_after k (p ∷ ps) (less, after_trans k p.0 ps less rising.1)) (omega arith);
        } in
        subst (λ x. IsFirstShort had (p ∷ ps) x) (sym at) goal

    further : (had : K → ℕ) (p : K × ℕ) (ps : List (K × ℕ)) → IsRising (p ∷ ps) → (q : K × ℕ) → p.1 ≤ had p.0 → IsFirstShort had ps q
        → IsFirstShort had (p ∷ ps) q
    further had p ps rising q enough rest = record {
      least = rest.least;
      short =
          cases_by_order eq lt order p.0 q.0 _
          (λ is e e' l l'. absurd (omega (arith, rest.short, value_after q.0 ps (subst (λ x. AllAfter x ps) is rising.1))))
          (λ e e' l l'. rw e rest.short)
          (λ e e' l l'. rw e rest.short);
      first = λ k less.
          cases_by_order eq lt order p.0 k _
          (λ is e e' l l'. rw e (subst (λ x. p.1 ≤ had x) is enough))
          (λ e e' l l'. rw e (rest.first k less))
          (λ e e' l l'. rw e (rest.first k less));
    }

    pub some_short : (had : K → ℕ) (ps : List (K × ℕ)) → IsRising ps → (q : K × ℕ) → first_short had ps ≡ Some q → IsFirstShort had ps q
    some_short had [] rising q is = cc
    some_short had (p ∷ ps) rising q is =
        elim (cases_lt (had p.0) p.1) [
          | inl short ↦ here had p ps rising q short (sym (rw (lt-ltb (had p.0) p.1 short) refl) ∙ is)
          | inr enough ↦ further had p ps rising q enough (some_short had ps rising.2 q (sym (rw (le-ltb (had p.0) p.1 enough) refl) ∙ is))
        ]
