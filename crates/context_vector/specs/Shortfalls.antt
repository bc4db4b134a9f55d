-- The first key of which one list has more than another.
use Rattle.std.specs.Prelude.{ℕ, ◌+◌, List, [], ◌∷◌, Option, Some, None, nat_lt, if◌then◌else◌}

-- the first key of the list whose value is above what `had` says of it, with the least value that is missing
abbrev pub first_short : {K : Type 0} → (K → ℕ) → List (K × ℕ) → Option (K × ℕ)
first_short had [] = None
first_short had (p ∷ ps) = if nat_lt (had p.0) p.1 then Some (p.0, had p.0 + 1) else first_short had ps
