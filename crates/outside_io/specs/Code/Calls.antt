-- The calls of a device in memory, counted, and those that are to fail.
use Rattle.std.specs.Prelude.{ℕ, List}

-- the numbers of the calls that fail, and the number of the next call
pub record CallsData : Type 0 where
  pub failing : List ℕ
  pub next : ℕ
