-- Counts that are read from the front.
use Rattle.std.specs.Prelude.{◌≡◌, ℕ, ◌≤◌, List, [], ◌∷◌}

-- each site of the list is this one or a greater one
abbrev pub SitesFrom : ℕ → List (ℕ × ℕ) → Type 0
SitesFrom s [] = Unit {0}
SitesFrom s (p ∷ ps) = (s ≤ p.0) × SitesFrom s ps

-- both lists have the same keys, and no value of the second is above that of the first
abbrev pub AreEnough : {K : Type 0} → List (K × ℕ) → List (K × ℕ) → Type 0
AreEnough [] [] = Unit {0}
AreEnough [] (q ∷ qs) = ⊥
AreEnough (p ∷ ps) [] = ⊥
AreEnough (p ∷ ps) (q ∷ qs) = (q.0 ≡ p.0) × (q.1 ≤ p.1) × AreEnough ps qs
