-- Items with commas between them, put one after the other.
use Rattle.std.proofs.Common.{◌≡◌, ℕ, ◌+◌, ◌<◌, List, [], ◌∷◌, ◌++◌, length, take, map, sym, ap, ◌∙◌, append_assoc, arith}
use Rattle.std.specs.Prelude.{slice_index_or}
use Rattle.std.proofs.lemmas.List.{append-nil, take_more, take_all}
use Rattle.std.proofs.lemmas.List.Concat.{flat_map-append, flat_map-cons}
use Rattle.script_text.specs.Report.{listed, with_commas}

-- the first item, and each other one with a comma before it
pub listed_first : {A : Type 0} (text : A → List ℕ) (x : A) (xs : List A) → listed (map text (x ∷ xs)) ≡ text x ++ with_commas text xs
listed_first text x [] = sym (append-nil (text x))
listed_first text x (y ∷ ys) =
    ap (λ (t : List ℕ). text x ++ 44 ∷ t) (listed_first text y ys)
    ∙ ap (λ (t : List ℕ). text x ++ t) (sym (flat_map-cons (λ z. 44 ∷ text z) y ys))

-- the first item and then the others
pub listed_both : {A : Type 0} (text : A → List ℕ) (all : List A) (x : A) (xs : List A) (start was now : List ℕ) → all ≡ x ∷ xs
    → was ≡ start ++ text x → now ≡ was ++ with_commas text xs → now ≡ start ++ listed (map text all)
listed_both {A = A} text all x xs start was now is first others =
    let list : listed (map text all) ≡ text x ++ with_commas text xs =
    ap (λ (l : List A). listed (map text l)) is ∙ listed_first text x xs in
    others ∙ (ap (λ (t : List ℕ). t ++ with_commas text xs) first
    ∙ (append_assoc start (text x) (with_commas text xs) ∙ ap (λ (t : List ℕ). start ++ t) (sym list)))

-- the items before the i-th stand there, each as its text with a comma before it
abbrev pub IsListedUpTo : {A : Type 0} → (A → List ℕ) → List ℕ → List A → ℕ → List ℕ → Type 0
IsListedUpTo text start xs i now = now ≡ start ++ with_commas text (take i xs)

module _ {A : Type 0} (text : A → List ℕ) (start : List ℕ) (xs : List A) where
  pub listed_none : (now : List ℕ) → now ≡ start → IsListedUpTo text start xs 0 now
  listed_none now e = e ∙ sym (append-nil start)

  pub listed_more : (i : ℕ) (d : A) (was now : List ℕ) → i < length xs → IsListedUpTo text start xs i was
      → now ≡ was ++ (44 ∷ text (slice_index_or xs i d)) → IsListedUpTo text start xs (i + 1) now
  listed_more i d was now within up put =
      let x = slice_index_or xs i d in
      let item : List ℕ = 44 ∷ text x in
      let before : List ℕ = with_commas text (take i xs) in
      let items : with_commas text (take (i + 1) xs) ≡ before ++ item =
      ap (λ (ys : List A). with_commas text ys) (take_more xs i d within)
      ∙ (flat_map-append (λ y. 44 ∷ text y) (take i xs) (x ∷ [])
      ∙ ap (λ (t : List ℕ). before ++ t) (append-nil item)) in
      put ∙ (ap (λ (t : List ℕ). t ++ item) up
      ∙ (append_assoc start before item ∙ ap (λ (t : List ℕ). start ++ t) (sym items)))

  pub listed_end : (i : ℕ) (now : List ℕ) → ¬ (i < length xs) → IsListedUpTo text start xs i now → now ≡ start ++ with_commas text xs
  listed_end i now past up = up ∙ ap (λ (t : List A). start ++ with_commas text t) (take_all i xs (omega (arith, past)))
