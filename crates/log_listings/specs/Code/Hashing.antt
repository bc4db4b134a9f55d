-- Messages that are hashed piece by piece.
use Rattle.std.specs.Prelude.{ℕ, List, ◌++◌}
use Rattle.sha2.specs.declared.Sha256.{Sha256}
use Rattle.sha2.specs.Hashers.{Holds256}

-- the message of the hasher got these bytes to its end
abbrev pub Feeds : Sha256 → Sha256 → List ℕ → Type 0
Feeds old new bytes = (m : List ℕ) → Holds256 old m → Holds256 new (m ++ bytes)
