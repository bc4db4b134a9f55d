-- Sums over sets of elements of a list.
use Rattle.std.proofs.Common.{◌≡◌, ℕ, ◌+◌, ◌≤◌, Bool, true, false, List, [], ◌∷◌, inl, inr, if◌then◌else◌, ap, subst, arith}
use Rattle.std.proofs.lemmas.Bool.{cases_Bool}
use Rattle.ttf_form.specs.Families.{IsIn, sum_where}

module _ {A : Type 0} (C D : A → Bool) (within : (x : A) → C x ≡ true → D x ≡ true) (f : A → ℕ) where
  at_within : (x : A) → (if C x then f x else 0) ≤ (if D x then f x else 0)
  at_within x = elim (cases_Bool (C x)) [ inl k ↦ rw (k, within x k) (omega arith) | inr k ↦ rw k (omega arith) ]

  pub sum_within : (xs : List A) → sum_where C f xs ≤ sum_where D f xs
  sum_within [] = omega arith
  sum_within (x ∷ xs) = let rest = sum_within xs in let here = at_within x in omega arith

  -- a set with an element more weighs more by it
  pub sum_more : (x : A) (xs : List A) → C x ≡ false → D x ≡ true → IsIn x xs → sum_where C f xs + f x ≤ sum_where D f xs
  sum_more x [] lacks there i = absurd i
  sum_more x (y ∷ ys) lacks there (inl e) =
      let rest = sum_within ys in
      let c : C y ≡ false = subst (λ (z : A). C z ≡ false) e lacks in
      let d : D y ≡ true = subst (λ (z : A). D z ≡ true) e there in
      let same : f x ≡ f y = ap f e in
      rw (c, d) (omega arith)
  sum_more x (y ∷ ys) lacks there (inr i) = let rest = sum_more x ys lacks there i in let here = at_within y in omega arith
