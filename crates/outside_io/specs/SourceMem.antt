-- A source in memory, as contracts see it.
use Rattle.std.specs.Prelude.{ℕ, List}

-- the bytes left, the most that a read gives, the numbers of the reads that fail, how many reads there were
-- and how many of them failed
pub record SourceMemData : Type 0 where
  pub left : List ℕ
  pub chunk : ℕ
  pub failing : List ℕ
  pub calls : ℕ
  pub faults : ℕ
