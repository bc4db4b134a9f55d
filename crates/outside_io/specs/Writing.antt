-- What a write that stopped midway leaves.
use Rattle.std.specs.Prelude.{Option, ◌≡◌, ℕ, List, ◌++◌}
use Rattle.std.specs.Io.KnownBytes.{Appends}

-- known bytes grow by a front of `bytes`
pub record WritesFront (old new : Option (List ℕ)) (bytes : List ℕ) : Type 0 where
  pub front : List ℕ
  pub rest : List ℕ
  pub parts : bytes ≡ front ++ rest
  pub written : Appends old new front
