-- A wire that isn't there, as contracts see it.
use Rattle.std.specs.Prelude.{ℕ}
use Rattle.outside_io.specs.declared.link.Asked.{Asked}

pub record NoWireData : Type 0 where
  pub asked : Asked
  pub asks : ℕ
  pub faults : ℕ
