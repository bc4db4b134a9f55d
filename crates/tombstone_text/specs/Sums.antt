-- The place of a running sum in a column of numbers.
use Rattle.std.specs.Prelude.{◌≡◌, ℕ, ◌+◌, ◌<◌, List, length, take, sum, slice_index}

-- the n-th of all that the numbers count lies within the i-th of them, at o
pub record IsPart (parts : List ℕ) (i : ℕ) (o : ℕ) (n : ℕ) : Type 0 where
  pub part : i < length parts
  pub within : o < slice_index parts i
  pub place : sum (take i parts) + o ≡ n
