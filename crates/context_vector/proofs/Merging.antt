-- Two lists whose keys rise, read side by side: the first key of which the second has more.
use Rattle.std.proofs.Common.{◌≡◌, ℕ, ◌+◌, ◌<◌, ◌≤◌, Bool, true, false, List, [], ◌∷◌, ◌++◌, drop, if◌then◌else◌, Some, None, refl, sym, ap, subst, ◌∙◌}
use Rattle.std.specs.Prelude.{Option, nat_lt, slice_get}
use Rattle.std.proofs.lemmas.Bool.{lt-ltb, le-ltb}
use mathlib.Core.Bool.{false≢true}
use Rattle.op_name.specs.Order.{IsOrder}
use Rattle.op_name.proofs.CallerLemmas.{cases_by_order}
use Rattle.context_vector.specs.Shortfalls.{first_short}
use Rattle.context_vector.specs.Code.Counting.{AreEnough}
use Rattle.context_vector.proofs.Keyed.{value_at, AllAfter, IsRising, value_after, after_trans}

same_first : {X : Type 0} (x y : X) → Some x ≡ Some y → x ≡ y
same_first x y e = cc

none_first : {X P : Type 0} (x : X) → ◌≡◌ {A = Option X} None (Some x) → P
none_first x e = cc

-- a list with a first element, and one without
pub begins : {X : Type 0} (xs : List X) (x : X) → slice_get xs 0 ≡ Some x → xs ≡ x ∷ drop 1 xs
begins [] x is = none_first x is
begins (y ∷ xs) x is = ap (λ z. z ∷ xs) (same_first y x is)

pub ends : {X : Type 0} (xs : List X) → slice_get xs 0 ≡ None → xs ≡ []
ends [] is = refl
ends (x ∷ xs) is = none_first x (sym is)

module _ {K : Type 0} (eq lt : K → K → Bool) (order : IsOrder eq lt) where
  lesser_differs : (j k : K) → lt j k ≡ true → (eq j k ≡ false) × (eq k j ≡ false)
  lesser_differs j k less =
      cases_by_order eq lt order j k _
      (λ is e e' l l'. absurd (false≢true (sym l ∙ less)))
      (λ e e' l l'. (e, e'))
      (λ e e' l l'. (e, e'))

  -- a pair isn't asked for again where all other keys are after its own
  without_first :
      (p : K × ℕ) (ps qs : List (K × ℕ)) → AllAfter eq lt p.0 qs
      → first_short (value_at eq lt (p ∷ ps)) qs ≡ first_short (value_at eq lt ps) qs
  without_first p ps [] after = refl
  without_first p ps (q ∷ qs) after =
      rw (lesser_differs p.0 q.0 after.0).0
      (ap (λ r. if nat_lt (value_at eq lt ps q.0) q.1 then Some (q.0, value_at eq lt ps q.0 + 1) else r) (without_first p ps qs after.1))

  both_gone :
      (p q : K × ℕ) (ps qs : List (K × ℕ)) → q.0 ≡ p.0 → q.1 ≤ p.1 → AllAfter eq lt q.0 qs
      → first_short (value_at eq lt (p ∷ ps)) (q ∷ qs) ≡ first_short (value_at eq lt ps) qs
  both_gone p q ps qs same enough after =
      let hit : eq p.0 q.0 ≡ true = subst (λ k. eq p.0 k ≡ true) (sym same) (order.itself p.0) in
      rw (hit, le-ltb p.1 q.1 enough) (without_first p ps qs (subst (λ k. AllAfter eq lt k qs) same after))

  -- a key before the first wanted one is passed
  pub mine_passed :
      (ps qs : List (K × ℕ)) (p q : K × ℕ) → IsRising eq lt qs → slice_get ps 0 ≡ Some p → slice_get qs 0 ≡ Some q
      → lt p.0 q.0 ≡ true → first_short (value_at eq lt ps) qs ≡ first_short (value_at eq lt (drop 1 ps)) qs
  mine_passed [] qs p q rising is is' less = none_first p is
  mine_passed (x ∷ ps) [] p q rising is is' less = none_first q is'
  mine_passed (x ∷ ps) (y ∷ qs) p q rising is is' less =
      let first : lt x.0 y.0 ≡ true = (λ j. lt (same_first x p is j).0 (same_first y q is' j).0) ∙ less in
      without_first x ps (y ∷ qs) (first, after_trans eq lt order x.0 y.0 qs first rising.1)

  -- a key that both have is passed where the value is enough, and else is short
  pub both_passed :
      (ps qs : List (K × ℕ)) (p q : K × ℕ) → IsRising eq lt qs → slice_get ps 0 ≡ Some p → slice_get qs 0 ≡ Some q → q.0 ≡ p.0
      → q.1 ≤ p.1 → first_short (value_at eq lt ps) qs ≡ first_short (value_at eq lt (drop 1 ps)) (drop 1 qs)
  both_passed [] qs p q rising is is' same enough = none_first p is
  both_passed (x ∷ ps) [] p q rising is is' same enough = none_first q is'
  both_passed (x ∷ ps) (y ∷ qs) p q rising is is' same enough =
      let mine = same_first x p is in
      let theirs = same_first y q is' in
      let keys : y.0 ≡ x.0 = ap (λ (z : K × ℕ). z.0) theirs ∙ (same ∙ ap (λ (z : K × ℕ). z.0) (sym mine)) in
      let values : y.1 ≤ x.1 = subst (λ (z : K × ℕ). y.1 ≤ z.1) (sym mine) (subst (λ (z : K × ℕ). z.1 ≤ p.1) (sym theirs) enough) in
      both_gone x y ps qs keys values rising.1

  pub short_first :
      (ps qs : List (K × ℕ)) (p q : K × ℕ) → slice_get ps 0 ≡ Some p → slice_get qs 0 ≡ Some q → q.0 ≡ p.0 → p.1 < q.1
      → first_short (value_at eq lt ps) qs ≡ Some (q.0, p.1 + 1)
  short_first ps qs p q is is' same less =
      let hit : eq p.0 q.0 ≡ true = subst (λ k. eq p.0 k ≡ true) (sym same) (order.itself p.0) in
      ap (λ (xs : List (K × ℕ)). first_short (value_at eq lt xs) qs) (begins ps p is)
      ∙ (ap (first_short (value_at eq lt (p ∷ drop 1 ps))) (begins qs q is') ∙ rw (hit, lt-ltb p.1 q.1 less) refl)

  -- a key that has no value among mine is short at 1
  lacks :
      (ps qs : List (K × ℕ)) (q : K × ℕ) → IsRising eq lt qs → value_at eq lt ps q.0 ≡ 0 → slice_get qs 0 ≡ Some q
      → first_short (value_at eq lt ps) qs ≡ Some (q.0, 1)
  lacks ps [] q rising none is = none_first q is
  lacks ps (y ∷ qs) q rising none is =
      let first = same_first y q is in
      let none' : value_at eq lt ps y.0 ≡ 0 = ap (λ (z : K × ℕ). value_at eq lt ps z.0) first ∙ none in
      rw (none', lt-ltb 0 y.1 rising.0) (ap (λ (z : K × ℕ). Some (z.0, 1)) first)

  pub lacks_all :
      (ps qs : List (K × ℕ)) (q : K × ℕ) → IsRising eq lt qs → slice_get ps 0 ≡ None → slice_get qs 0 ≡ Some q
      → first_short (value_at eq lt ps) qs ≡ Some (q.0, 1)
  lacks_all ps qs q rising is is' = lacks ps qs q rising (ap (λ (xs : List (K × ℕ)). value_at eq lt xs q.0) (ends ps is)) is'

  pub lacks_first :
      (ps qs : List (K × ℕ)) (p q : K × ℕ) → IsRising eq lt ps → IsRising eq lt qs → slice_get ps 0 ≡ Some p
      → slice_get qs 0 ≡ Some q → lt q.0 p.0 ≡ true → first_short (value_at eq lt ps) qs ≡ Some (q.0, 1)
  lacks_first [] qs p q rising rising' is is' more = none_first p is
  lacks_first (x ∷ ps) qs p q rising rising' is is' more =
      let first : lt q.0 x.0 ≡ true = subst (λ (z : K × ℕ). lt q.0 z.0 ≡ true) (sym (same_first x p is)) more in
      lacks (x ∷ ps) qs q rising' (value_after eq lt order q.0 (x ∷ ps) (first, after_trans eq lt order q.0 x.0 ps first rising.1)) is'

  -- parts with the same keys, of which mine are enough, are passed at once
  pub enough_passed :
      (ps qs more others : List (K × ℕ)) → AreEnough ps qs → IsRising eq lt (qs ++ others)
      → first_short (value_at eq lt (ps ++ more)) (qs ++ others) ≡ first_short (value_at eq lt more) others
  enough_passed [] [] more others enough rising = refl
  enough_passed [] (q ∷ qs) more others enough rising = absurd enough
  enough_passed (p ∷ ps) [] more others enough rising = absurd enough
  enough_passed (p ∷ ps) (q ∷ qs) more others enough rising =
      both_gone p q (ps ++ more) (qs ++ others) enough.0 enough.1 rising.1 ∙ enough_passed ps qs more others enough.2 rising.2
