-- The ones of a column of bytes.
use Rattle.std.specs.Prelude.{◌≡◌, ℕ, ◌<◌, Bool, ◌==◌, List, length, take, slice_index}
use Rattle.std.specs.List.{count_by}

abbrev pub is_one : ℕ → Bool
is_one x = x == 1

-- the number of bytes that are 1
abbrev pub ones_of : List ℕ → ℕ
ones_of xs = count_by is_one xs

-- a one is at the place, after k others
pub record IsSelected (flags : List ℕ) (k : ℕ) (i : ℕ) : Type 0 where
  pub within : i < length flags
  pub one : slice_index flags i ≡ 1
  pub before : ones_of (take i flags) ≡ k
