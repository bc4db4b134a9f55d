-- Lists that grow at their end, and where two lists meet.
use Rattle.std.proofs.Common.{◌≡◌, ℕ, ◌+◌, ◌≤◌, List, [], ◌∷◌, ◌++◌, length, take, drop, append_assoc, length-drop, sym, ap, subst, ◌∙◌, arith}
use Rattle.std.proofs.lemmas.List.{append-nil, take-append-drop, length-take-le, drop-drop}
use Rattle.std.proofs.Math.Seq.{take-append_seam, drop-append_seam, take-append-add}

-- what holds of no element, and is kept by one more at the end, holds of every list
pub by_ends : {X : Type 0} (P : List X → Type 0) → P [] → ((xs : List X) (x : X) → P xs → P (xs ++ x ∷ [])) → (xs : List X) → P xs
by_ends {X} P none more xs = behind [] xs none
  where
    behind : (done rest : List X) → P done → P (done ++ rest)
    behind done [] p = subst P (sym (append-nil done)) p
    behind done (x ∷ rest) p = subst P (append_assoc done (x ∷ []) rest) (behind (done ++ x ∷ []) rest (more done x p))

-- lists that are one list together have equal parts, if the first parts are as long
pub front_same : {X : Type 0} (xs ys us vs : List X) → length xs ≡ length us → xs ++ ys ≡ us ++ vs → xs ≡ us
front_same xs ys us vs long e =
    sym (take-append_seam xs ys) ∙ ap (λ n. take n (xs ++ ys)) long ∙ ap (take (length us)) e ∙ take-append_seam us vs

pub rest_same : {X : Type 0} (xs ys us vs : List X) → length xs ≡ length us → xs ++ ys ≡ us ++ vs → ys ≡ vs
rest_same xs ys us vs long e =
    sym (drop-append_seam xs ys) ∙ ap (λ n. drop n (xs ++ ys)) long ∙ ap (drop (length us)) e ∙ drop-append_seam us vs

-- one element more in front of a list
pub append_one : {X : Type 0} (xs : List X) (x : X) (ys : List X) → (xs ++ x ∷ []) ++ ys ≡ xs ++ (x ∷ ys)
append_one xs x ys = append_assoc xs (x ∷ []) ys

-- what is left behind one element more
pub drop_one : {X : Type 0} (n : ℕ) (xs : List X) (x : X) (ys : List X) → drop n xs ≡ x ∷ ys → drop (n + 1) xs ≡ ys
drop_one n xs x ys e = sym (drop-drop 1 n xs) ∙ ap (drop 1) e

-- so there is one more
pub one_left : {X : Type 0} (n : ℕ) (xs : List X) (x : X) (ys : List X) → drop n xs ≡ x ∷ ys → n + 1 ≤ length xs
one_left n xs x ys e =
    let left = length-drop n xs in
    let long : length (drop n xs) ≡ length (x ∷ ys) = ap (λ zs. length zs) e in
    omega (arith, left, long)

-- and what is in front of it has it at its end
pub take_one : {X : Type 0} (n : ℕ) (xs : List X) (x : X) (ys : List X) → drop n xs ≡ x ∷ ys → take (n + 1) xs ≡ take n xs ++ x ∷ []
take_one n xs x ys e =
    let room : n ≤ length xs = let l = one_left n xs x ys e in omega (arith, l) in
    let long : length (take n xs) ≡ n = length-take-le n xs room in
    let whole : xs ≡ take n xs ++ (x ∷ ys) = sym (take-append-drop n xs) ∙ ap (λ zs. take n xs ++ zs) e in
    ap (take (n + 1)) whole ∙ ap (λ k. take (k + 1) (take n xs ++ (x ∷ ys))) (sym long) ∙ take-append-add (take n xs) (x ∷ ys) 1
