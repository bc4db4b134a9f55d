-- Ranges of two lists, one after the other.
use Rattle.std.proofs.Common.{◌≡◌, ℕ, zero, suc, ◌+◌, ◌-◌, ◌≤◌, List, [], ◌∷◌, ◌++◌, length, take, drop, refl, sym, ap, ◌∙◌, arith}
use Rattle.std.proofs.lemmas.List.{drop_all}
use Rattle.std.proofs.Math.Seq.{drop-append-add}
use Rattle.site_ranges.specs.Ranges.{range_of}

-- nothing of an empty list
none_taken : {A : Type 0} (n : ℕ) → take {A = A} n [] ≡ []
none_taken zero = refl
none_taken (suc n) = refl

none_dropped : {A : Type 0} (n : ℕ) → drop {A = A} n [] ≡ []
none_dropped zero = refl
none_dropped (suc n) = refl

pub range_none : {A : Type 0} (p n : ℕ) → range_of {A = A} p n [] ≡ []
range_none {A} p n = ap (take n) (none_dropped {A = A} p) ∙ none_taken n

-- a range of no elements
pub range_nothing : {A : Type 0} (p n : ℕ) (xs : List A) → n ≡ 0 → range_of p n xs ≡ []
range_nothing p n xs none = ap (λ k. take k (drop p xs)) none

-- a range of a list in two parts: what it has of the first, and of the second the rest
pub range-append : {A : Type 0} (p n : ℕ) (xs ys : List A)
    → range_of p n (xs ++ ys) ≡ range_of p n xs ++ range_of (p - length xs) (n - (length xs - p)) ys
range-append {A} p n [] ys =
    let places : p ≡ p - 0 = omega arith in
    let counts : n ≡ n - (0 - p) = omega arith in
    (λ i. range_of (places i) (counts i) ys) ∙ ap (λ (zs : List A). zs ++ range_of (p - 0) (n - (0 - p)) ys) (sym (range_none p n))
range-append zero zero (x ∷ xs) ys =
    let none : 0 - (length (x ∷ xs) - 0) ≡ 0 = omega arith in
    sym (range_nothing (0 - length (x ∷ xs)) (0 - (length (x ∷ xs) - 0)) ys none)
range-append {A} zero (suc n) (x ∷ xs) ys =
    let places : 0 - length xs ≡ 0 - suc (length xs) = omega arith in
    let counts : n - (length xs - 0) ≡ suc n - (suc (length xs) - 0) = omega arith in
    ap (λ (zs : List A). x ∷ zs) (range-append zero n xs ys)
    ∙ (λ i. (x ∷ range_of 0 n xs) ++ range_of (places i) (counts i) ys)
range-append (suc p) n (x ∷ xs) ys =
    let places : p - length xs ≡ suc p - suc (length xs) = omega arith in
    let counts : n - (length xs - p) ≡ n - (suc (length xs) - suc p) = omega arith in
    range-append p n xs ys ∙ (λ i. range_of p n xs ++ range_of (places i) (counts i) ys)

-- nothing of a list that ends before the range
pub range_past : {A : Type 0} (p n : ℕ) (xs : List A) → length xs ≤ p → range_of p n xs ≡ []
range_past p n xs past = ap (take n) (drop_all p xs past) ∙ none_taken n

-- a range behind a first part
pub range_behind : {A : Type 0} (k p q n : ℕ) (xs ys : List A) → length xs ≡ k → k + p ≡ q → range_of q n (xs ++ ys) ≡ range_of p n ys
range_behind {A} k p q n xs ys long place =
    let at : q ≡ length xs + p = omega arith in
    ap (λ i. take n (drop i (xs ++ ys))) at ∙ ap (take n) (drop-append-add xs ys p)
