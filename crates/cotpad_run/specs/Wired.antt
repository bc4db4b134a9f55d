-- What a call meets of the wire.
use Rattle.std.specs.Prelude.{◌≡◌, ◌⊎◌, ℕ, ◌+◌, ◌≤◌, List, Option}
use Rattle.outside_io.specs.Ends.{End}
use Rattle.outside_io.specs.declared.link.Asked.{Asked}

-- its ends with the bytes sent, received and to come, and the peer's bytes, where they are told; the last link asked for, and how many
-- were; and the count of faults
pub record Wired : Type 0 where
  pub ends : ℕ → End
  pub peer : Option (List ℕ)
  pub asked : Asked
  pub asks : ℕ
  pub faults : ℕ

abbrev pub wired : (ℕ → End) → Option (List ℕ) → Asked → ℕ → ℕ → Wired
wired ends peer asked asks faults = record { ends = ends; peer = peer; asked = asked; asks = asks; faults = faults }

-- the wire is as it was, or it was asked for this link, at most so often
abbrev pub IsAskedFor : Asked → ℕ → Wired → Wired → Type 0
IsAskedFor wanted most before after =
    (after ≡ before) ⊎ ((after.asked ≡ wanted) × (after.asks ≤ before.asks + most))
