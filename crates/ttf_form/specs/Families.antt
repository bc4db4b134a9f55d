-- Finite families: membership and sums over a list.
use Rattle.std.specs.Prelude.{ℕ, ◌+◌, Bool, List, [], ◌∷◌, if◌then◌else◌}
pub use Rattle.op_name.specs.Lists.{IsIn}

-- the sum of f over the elements that pass the test
abbrev pub sum_where : {A : Type 0} → (A → Bool) → (A → ℕ) → List A → ℕ
sum_where p f [] = 0
sum_where p f (x ∷ xs) = (if p x then f x else 0) + sum_where p f xs

-- the sum of f over all elements
abbrev pub total_by : {A : Type 0} → (A → ℕ) → List A → ℕ
total_by f [] = 0
total_by f (x ∷ xs) = f x + total_by f xs
