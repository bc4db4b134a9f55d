-- A sink in memory, as contracts see it.
use Rattle.std.specs.Prelude.{ℕ, List}

-- the bytes held, the numbers of the writes that fail, how many writes there were and how many of them failed
pub record SinkMemData : Type 0 where
  pub held : List ℕ
  pub failing : List ℕ
  pub calls : ℕ
  pub faults : ℕ
