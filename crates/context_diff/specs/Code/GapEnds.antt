-- Gaps as two ends: how many cells stand before the gap, and how many before or in it.
use Rattle.std.specs.Prelude.{ℕ, zero, suc, ◌-◌, Bool, List, [], ◌∷◌, ◌||◌, take, drop, if◌then◌else◌}
use Rattle.std.specs.List.{list_any}
use Rattle.context_diff.specs.Gaps.{Gap}

-- how many cells stand up to and with the n-th one that passes; all where fewer pass
abbrev pub up_to_nth : {K : Type 0} → (K → Bool) → ℕ → List K → ℕ
up_to_nth p zero cs = 0
up_to_nth p (suc n) [] = 0
up_to_nth p (suc n) (c ∷ cs) = suc (up_to_nth p (if p c then n else suc n) cs)

-- how many cells stand before the first one that passes; all where none does
abbrev pub before_first : {K : Type 0} → (K → Bool) → List K → ℕ
before_first p [] = 0
before_first p (c ∷ cs) = if p c then 0 else suc (before_first p cs)

-- how many cells stand up to and with the last one that passes; none where none does
abbrev pub up_to_last : {K : Type 0} → (K → Bool) → List K → ℕ
up_to_last p [] = 0
up_to_last p (c ∷ cs) = if p c || list_any p cs then suc (up_to_last p cs) else 0

-- the gap between these ends
abbrev pub gap_between : {K : Type 0} → List K → ℕ → ℕ → Gap K
gap_between cs l r = record { before = take l cs; between = take (r - l) (drop l cs); behind = drop r cs }
