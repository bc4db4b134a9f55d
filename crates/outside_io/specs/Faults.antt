-- Counts of faults, and what it takes to fail.
use Rattle.std.specs.Prelude.{Result, ◌≡◌, ℕ, ◌+◌, ◌-◌, ◌^◌, ◌≤◌, min, IsOk, IsErr}

-- the last value of a count, at which it stays
abbrev pub last_count : ℕ
last_count = 2 ^ 64 - 1

-- the count rose from `before` to `now`, or stands at its last value
abbrev pub Rose : ℕ → ℕ → Type 0
Rose before now = min (before + 1) last_count ≤ now

-- a call doesn't make the count fall: it fails only where the count rose, and leaves the count where it goes well
pub record HasCause {T E : Type 0} (before now : ℕ) (result : Result T E) : Type 0 where
  pub later : before ≤ now
  pub failed : IsErr result → Rose before now
  pub well : IsOk result → now ≡ before
