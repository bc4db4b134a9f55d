-- What a call meets outside, and what it leaves there.
use Rattle.std.specs.Prelude.{◌≡◌, ℕ, List, Option}
use Rattle.std.specs.Io.KnownBytes.{Appends}
use Rattle.outside_io.specs.Faults.{Rose}
use Rattle.outside_io.specs.Writing.{WritesFront}

-- the bytes that the source has left and that the sink holds, where they are told, and the counts of faults of both
pub record Outside : Type 0 where
  pub left : Option (List ℕ)
  pub held : Option (List ℕ)
  pub read_faults : ℕ
  pub write_faults : ℕ

-- the bytes left and the faults of a source, the bytes held and the faults of a sink
abbrev pub told : Option (List ℕ) → ℕ → Option (List ℕ) → ℕ → Outside
told left read_faults held write_faults = record { left = left; held = held; read_faults = read_faults; write_faults = write_faults }

-- known bytes stay at the front
abbrev pub Grows : Option (List ℕ) → Option (List ℕ) → Type 0
Grows held now = (more : List ℕ) × Appends held now more

-- these bytes were written whole, and no write failed
pub record IsWritten (bytes : List ℕ) (old new : Outside) : Type 0 where
  pub appended : Appends old.held new.held bytes
  pub faultless : new.write_faults ≡ old.write_faults

-- a write failed, when a front of these bytes was written
pub record IsCutOff (bytes : List ℕ) (old new : Outside) : Type 0 where
  pub front : WritesFront old.held new.held bytes
  pub fault : Rose old.write_faults new.write_faults
