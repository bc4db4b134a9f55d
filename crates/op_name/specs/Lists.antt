-- Elements of lists, and where they stand.
use Rattle.std.specs.Prelude.{◌≡◌, ℕ, suc, Bool, List, [], ◌∷◌, ◌⊎◌, if◌then◌else◌}

-- x is an element of the list
abbrev pub IsIn : {A : Type 0} → A → List A → Type 0
IsIn x [] = ⊥
IsIn x (y ∷ ys) = (x ≡ y) ⊎ IsIn x ys

-- the places of the elements that pass the test, where the first element of the list stands at n
abbrev pub places_from : {A : Type 0} → (A → Bool) → ℕ → List A → List ℕ
places_from t n [] = []
places_from t n (x ∷ xs) = if t x then n ∷ places_from t (suc n) xs else places_from t (suc n) xs
