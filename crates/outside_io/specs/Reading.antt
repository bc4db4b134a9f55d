-- What reading takes from a source.
use Rattle.std.specs.Prelude.{Option, ℕ, ◌≤◌, List, length}
use Rattle.std.specs.Io.KnownBytes.{Consumes}

-- known bytes lose a front of at most so many bytes
pub record LosesFront (most : ℕ) (old new : Option (List ℕ)) : Type 0 where
  pub front : List ℕ
  pub few : length front ≤ most
  pub lost : Consumes old new front
