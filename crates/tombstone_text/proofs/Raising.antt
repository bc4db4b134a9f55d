-- Elements changed one place after the other.
use Rattle.std.proofs.Common.{◌≡◌, ℕ, zero, suc, ◌≤◌, List, [], ◌∷◌, ◌++◌, map, length, refl, sym, ap, ◌∙◌, arith}
use Rattle.std.proofs.lemmas.List.{map-append}
use Rattle.ttf_form.specs.Cells.{CellData, change_at}
use Rattle.tombstone_text.specs.Chunks.{flat}

-- the list with its first k elements changed
abbrev pub changed_first : {A : Type 0} → ℕ → (A → A) → List A → List A
changed_first k f [] = []
changed_first zero f (x ∷ xs) = x ∷ xs
changed_first (suc k) f (x ∷ xs) = f x ∷ changed_first k f xs

pub first_none : {A : Type 0} (f : A → A) (xs : List A) → xs ≡ changed_first 0 f xs
first_none f [] = refl
first_none f (x ∷ xs) = refl

first_next : {A : Type 0} (f : A → A) (k : ℕ) (xs : List A) → change_at k f (changed_first k f xs) ≡ changed_first (suc k) f xs
first_next f k [] = refl
first_next f zero (x ∷ xs) = ap (λ l. f x ∷ l) (first_none f xs)
first_next f (suc k) (x ∷ xs) = ap (λ l. f x ∷ l) (first_next f k xs)

-- one more
pub first_more : {A : Type 0} (f : A → A) (k n : ℕ) (xs : List A) → n ≡ suc k
    → change_at k f (changed_first k f xs) ≡ changed_first n f xs
first_more f k n xs e = first_next f k xs ∙ ap (λ m. changed_first m f xs) (sym e)

-- all of them
pub first_all : {A : Type 0} (f : A → A) (k : ℕ) (xs : List A) → length xs ≤ k → changed_first k f xs ≡ map f xs
first_all f k [] le = refl
first_all f zero (x ∷ xs) le = absurd (omega (arith, le))
first_all f (suc k) (x ∷ xs) le = ap (λ l. f x ∷ l) (first_all f k xs (omega (arith, le)))

pub length-first : {A : Type 0} (f : A → A) (k : ℕ) (xs : List A) → length (changed_first k f xs) ≡ length xs
length-first f k [] = refl
length-first f zero (x ∷ xs) = refl
length-first f (suc k) (x ∷ xs) = ap suc (length-first f k xs)

-- a change of each cell of each chunk is one of each cell of the text
pub flat_map_all : (f : CellData → CellData) (cs : List (List CellData)) → flat (map (map f) cs) ≡ map f (flat cs)
flat_map_all f [] = refl
flat_map_all f (c ∷ cs) = ap (λ l. map f c ++ l) (flat_map_all f cs) ∙ sym (map-append f c (flat cs))
