-- What it means that a count rose.
use Rattle.std.proofs.Common.{ℕ, ◌<◌, ◌≤◌, ◌⊎◌, inl, inr, arith}
use Rattle.std.proofs.Math.Nat.{eq-or-lt_of_le}
use Rattle.outside_io.specs.Faults.{last_count, Rose}

pub Rose-cases : (before now : ℕ) → before ≤ now → Rose before now → (before < now) ⊎ (last_count ≤ now)
Rose-cases before now later rose = elim (eq-or-lt_of_le later) [ inl same ↦ inr (omega arith) | inr more ↦ inl more ]

pub Rose-more : (before now : ℕ) → before < now → Rose before now
Rose-more before now more = omega arith

pub Rose-last : (before now : ℕ) → last_count ≤ now → Rose before now
Rose-last before now last = omega arith
