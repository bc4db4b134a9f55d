-- Lists that are read from the front, one element after the other.
use Rattle.std.proofs.Common.{◌≡◌, ℕ, zero, suc, ◌+◌, ◌<◌, ◌≤◌, List, [], ◌∷◌, length, drop, refl, ap, sym, ◌∙◌, arith}
use Rattle.std.specs.Prelude.{Option, Some, None, slice_get}
use Rattle.std.proofs.lemmas.List.{drop-drop}

-- the first of what is left after i elements is the i-th
pub first_left : {A : Type 0} (all : List A) (i : ℕ) → slice_get (drop i all) 0 ≡ slice_get all i
first_left xs zero = refl
first_left [] (suc i) = refl
first_left (x ∷ xs) (suc i) = first_left xs i

-- after i elements the first of those that are left is the i-th
pub read_first : {A : Type 0} (all left : List A) (i : ℕ) (x : A) → left ≡ drop i all → Some x ≡ slice_get left 0 → slice_get all i ≡ Some x
read_first all left i x is at = sym (at ∙ (ap (λ xs. slice_get xs 0) is ∙ first_left all i))

-- one more is read
pub read_more : {A : Type 0} (all left new : List A) (i : ℕ) → left ≡ drop i all → new ≡ drop 1 left → new ≡ drop (i + 1) all
read_more all left new i is less = less ∙ (ap (drop 1) is ∙ drop-drop 1 i all)

none_left : {A : Type 0} (all : List A) (i : ℕ) → slice_get all i ≡ None → length all ≤ i
none_left [] i at = omega arith
none_left (x ∷ xs) zero at = let some : Some x ≡ None = at in cc
none_left (x ∷ xs) (suc i) at = omega (arith, none_left xs i at)

-- all are read where none is left
pub read_all : {A : Type 0} (all left : List A) (i : ℕ) → left ≡ drop i all → None ≡ slice_get left 0 → length all ≤ i
read_all all left i is at = none_left all i (sym (at ∙ (ap (λ xs. slice_get xs 0) is ∙ first_left all i)))

-- each turn leaves one less
pub read_falls : {A : Type 0} (left new : List A) (x : A) → Some x ≡ slice_get left 0 → new ≡ drop 1 left → length new < length left
read_falls [] new x at less = let none : Some x ≡ None = at in cc
read_falls (y ∷ ys) new x at less = omega (arith, ap length less)
