-- What bytes begin with, as it is answered.
use Rattle.std.specs.Prelude.{◌≡◌, ◌≢◌, ℕ, ◌≤◌, List, ◌++◌, length, drop, Result, Ok, Err}
use Rattle.flat_history.specs.Checkpoints.{Checkpoint}
use Rattle.wire_codec.specs.Reading.{left_at, Found}
use Rattle.checkpoint_codec.specs.declared.refusal.CheckpointBad.{CheckpointBad}
use Rattle.checkpoint_codec.specs.declared.refusal.CheckpointBad.TheVariants.{Header, Cut, Bad, Memory}
use Rattle.checkpoint_codec.specs.declared.reading.Front.{Front}
use Rattle.checkpoint_codec.specs.declared.reading.TheConstants.{HEADER_LEN}
use Rattle.checkpoint_codec.specs.Spelling.{header, checkpoint_bytes}
use Rattle.checkpoint_codec.specs.Spelled.{IsSpelled}
use Rattle.checkpoint_codec.specs.Reading.{fields_at}
use Rattle.checkpoint_codec.specs.Refusals.{refusal_at}

-- what the fields after the header are: the rest follows the header
abbrev pub found_in : List ℕ → Found Checkpoint
found_in rest = fields_at (left_at HEADER_LEN rest)

-- the answer is what the fields are found to be, or that memory ran out
abbrev pub IsAnswer : Result Front CheckpointBad → Found Checkpoint → Type 0
IsAnswer (Ok f) (Ok found) = (f.checkpoint ≡ found.0) × (f.used ≡ found.1.at)
IsAnswer (Ok f) (Err fault) = ⊥
IsAnswer (Err why) (Ok found) = why ≡ Memory
IsAnswer (Err why) (Err fault) = why ≢ Memory → why ≡ refusal_at fault.cause fault.offset

-- the first `used` bytes are the spelling of this checkpoint
pub record IsFront (bytes : List ℕ) (f : Front) : Type 0 where
  pub is : IsSpelled f.checkpoint
  pub size : f.used ≡ length (checkpoint_bytes f.checkpoint)
  pub parts : bytes ≡ checkpoint_bytes f.checkpoint ++ drop f.used bytes

-- the bytes begin with some checkpoint
abbrev pub HasCheckpoint : List ℕ → Type 0
HasCheckpoint bytes = (p : Checkpoint) × (rest : List ℕ) × IsSpelled p × (bytes ≡ checkpoint_bytes p ++ rest)

-- what a refusal says of the bytes: they don't begin with the header; or they end in a field, or a field is wrong, so that they begin
-- with no checkpoint
abbrev pub SaysOf : List ℕ → CheckpointBad → Type 0
SaysOf bytes Header = (rest : List ℕ) → ¬ (bytes ≡ header ++ rest)
SaysOf bytes (Cut offset) = (offset ≤ length bytes) × (¬ HasCheckpoint bytes)
SaysOf bytes (Bad offset cause) = (offset ≤ length bytes) × (¬ HasCheckpoint bytes)
SaysOf bytes Memory = Unit {0}
