-- Characters of a text, one after the other.
use Rattle.std.proofs.Common.{◌≡◌, ℕ, zero, suc, ◌+◌, ◌<◌, ◌≤◌, true, List, [], ◌∷◌, sym, ap, subst, ◌∙◌, length, take, drop, get_or, refl, arith}
use Rattle.std.specs.Prelude.{◌&&◌}
use Rattle.std.specs.Char.{IsScalar}
use Rattle.std.specs.Str.{all_scalars}
use Rattle.std.proofs.lemmas.Bool.{and_parts}
use Rattle.std.proofs.lemmas.List.{take_all}

scalar_first : (x : ℕ) (xs : List ℕ) → IsScalar x → all_scalars xs ≡ true → all_scalars (x ∷ xs) ≡ true
scalar_first x xs first rest = ap (λ b. b && all_scalars xs) first ∙ rest

scalars_next : (i : ℕ) (xs : List ℕ) (x : ℕ) → all_scalars (take i xs) ≡ true → i < length xs → x ≡ get_or xs i x → IsScalar x
    → all_scalars (take (suc i) xs) ≡ true
scalars_next i [] x before within is scalar = absurd (omega (arith, within))
scalars_next zero (y ∷ ys) x before within is scalar = scalar_first y (take zero ys) (subst IsScalar is scalar) before
scalars_next (suc i) (y ∷ ys) x before within is scalar =
    let parts = and_parts _ _ before in
    scalar_first y (take (suc i) ys) parts.0 (scalars_next i ys x parts.1 (omega (arith, within)) is scalar)

-- one more of the first characters
pub scalars_more : (i : ℕ) (xs : List ℕ) (x : ℕ) → all_scalars (take i xs) ≡ true → i < length xs → x ≡ get_or xs i x → IsScalar x
    → all_scalars (take (i + 1) xs) ≡ true
scalars_more i xs x before within is scalar = ap (λ k. all_scalars (take k xs)) next ∙ scalars_next i xs x before within is scalar
  where
    next : i + 1 ≡ suc i
    next = omega arith

-- all of them
pub scalars_all : (i : ℕ) (xs : List ℕ) → all_scalars (take i xs) ≡ true → length xs ≤ i → all_scalars xs ≡ true
scalars_all i xs all past = ap all_scalars (sym (take_all i xs past)) ∙ all

-- those of a part
pub scalars_take : (n : ℕ) (xs : List ℕ) → all_scalars xs ≡ true → all_scalars (take n xs) ≡ true
scalars_take zero xs all = refl
scalars_take (suc n) [] all = refl
scalars_take (suc n) (x ∷ xs) all = let parts = and_parts _ _ all in scalar_first x (take n xs) parts.0 (scalars_take n xs parts.1)

pub scalars_drop : (n : ℕ) (xs : List ℕ) → all_scalars xs ≡ true → all_scalars (drop n xs) ≡ true
scalars_drop zero xs all = all
scalars_drop (suc n) [] all = refl
scalars_drop (suc n) (x ∷ xs) all = let parts = and_parts _ _ all in scalars_drop n xs parts.1
