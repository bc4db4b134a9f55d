-- Reading piece by piece.
use Rattle.std.specs.Prelude.{Option, ◌≡◌, ℕ, List, ◌++◌, length, drop}
use Rattle.std.specs.Io.KnownBytes.{Consumes}

-- what a list gained at its end is what a source lost at its front
pub record Gathers (left_old left_new : Option (List ℕ)) (before now : List ℕ) : Type 0 where
  pub front : now ≡ before ++ drop (length before) now
  pub consumed : Consumes left_old left_new (drop (length before) now)
