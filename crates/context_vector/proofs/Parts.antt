-- Lists in parts: pieces one after the other, and two lists that are compared part by part.
use Rattle.std.proofs.Common.{◌≡◌, ℕ, zero, suc, ◌≤◌, Bool, true, false, List, [], ◌∷◌, ◌++◌, length, take, drop, refl, sym, ap, ◌∙◌}
use Rattle.std.specs.Prelude.{◌&&◌}
use Rattle.std.specs.Cmp.{first_so, second_so}
use Rattle.std.proofs.lemmas.List.{append_assoc, append-nil, take-append-drop, take-append-le}
use lib.Pointwise.{pointwise}
use mathlib.Core.Bool.{false≢true}
use Rattle.context_vector.specs.Code.Pieces.{joined}
use Rattle.context_vector.specs.Code.Readers.{ReaderData, left_of}

pub joined_append : {A : Type 0} (ps qs : List (List A)) → joined (ps ++ qs) ≡ joined ps ++ joined qs
joined_append [] qs = refl
joined_append (p ∷ ps) qs = ap (λ xs. p ++ xs) (joined_append ps qs) ∙ sym (append_assoc p (joined ps) (joined qs))

pub joined_last : {A : Type 0} (ps : List (List A)) (p : List A) → joined (ps ++ p ∷ []) ≡ joined ps ++ p
joined_last ps p = joined_append ps (p ∷ []) ∙ ap (λ xs. joined ps ++ xs) (append-nil p)

-- lists are the same where their first parts are, and what is left of them
and_after : (a b c : Bool) → (a && (b && c)) ≡ ((a && b) && c)
and_after true b c = refl
and_after false b c = refl

same_in_two : {A : Type 0} (same : A → A → Bool) (n : ℕ) (xs ys : List A)
    → pointwise same xs ys ≡ (pointwise same (take n xs) (take n ys) && pointwise same (drop n xs) (drop n ys))
same_in_two same zero xs ys = refl
same_in_two same (suc n) [] [] = refl
same_in_two same (suc n) [] (y ∷ ys) = refl
same_in_two same (suc n) (x ∷ xs) [] = refl
same_in_two same (suc n) (x ∷ xs) (y ∷ ys) =
    let parts = same_in_two same n xs ys in
    let firsts = pointwise same (take n xs) (take n ys) in
    ap (λ b. same x y && b) parts ∙ and_after (same x y) firsts (pointwise same (drop n xs) (drop n ys))

pub same_further : {A : Type 0} (same : A → A → Bool) (n : ℕ) (xs ys : List A)
    → pointwise same (take n xs) (take n ys) ≡ true → pointwise same xs ys ≡ pointwise same (drop n xs) (drop n ys)
same_further same n xs ys firsts =
    let rest = pointwise same (drop n xs) (drop n ys) in
    same_in_two same n xs ys ∙ ap (λ b. b && rest) firsts

pub same_apart : {A : Type 0} (same : A → A → Bool) (n : ℕ) (xs ys : List A)
    → pointwise same (take n xs) (take n ys) ≡ false → pointwise same xs ys ≡ false
same_apart same n xs ys firsts =
    let rest = pointwise same (drop n xs) (drop n ys) in
    same_in_two same n xs ys ∙ ap (λ b. b && rest) firsts

-- lists of the same elements, by a test that says so only of those that are the same
pub are_the_same : {A : Type 0} (same : A → A → Bool) → ((a b : A) → same a b ≡ true → a ≡ b)
    → (xs ys : List A) → pointwise same xs ys ≡ true → xs ≡ ys
are_the_same same exact [] [] e = refl
are_the_same same exact [] (y ∷ ys) e = absurd (false≢true e)
are_the_same same exact (x ∷ xs) [] e = absurd (false≢true e)
are_the_same same exact (x ∷ xs) (y ∷ ys) e =
    let here = exact x y (first_so (same x y) (pointwise same xs ys) e) in
    let rest = are_the_same same exact xs ys (second_so (same x y) (pointwise same xs ys) e) in
    λ i. here i ∷ rest i

-- what is left begins with the part that is being read
pub begins_with : {A : Type 0} (n : ℕ) (r : ReaderData A) (p : List A) → p ≡ r.front → n ≤ length p → take n (left_of r) ≡ take n p
begins_with n r p is short = ap (λ f. take n (f ++ joined r.pieces)) (sym is) ∙ take-append-le n p (joined r.pieces) short

pub goes_on : {A : Type 0} (n : ℕ) (r : ReaderData A) (p : List A)
    → p ≡ r.front → n ≤ length p → left_of r ≡ take n p ++ drop n (left_of r)
goes_on n r p is short = sym (take-append-drop n (left_of r)) ∙ ap (λ f. f ++ drop n (left_of r)) (begins_with n r p is short)

-- what was passed grows by the first elements of what is left
pub passed_on : {A : Type 0} (part all xs front rest : List A)
    → all ≡ part ++ xs → xs ≡ front ++ rest → all ≡ (part ++ front) ++ rest
passed_on part all xs front rest is is' = is ∙ (ap (λ ys. part ++ ys) is' ∙ sym (append_assoc part front rest))
