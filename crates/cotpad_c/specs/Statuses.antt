-- The numbers by which a call answers, and what it leaves.
use Rattle.std.specs.Prelude.{◌≡◌, ◌⊎◌, ◌<◌, ℕ, List, ◌++◌, Result, Ok, Err, length, drop}
use Rattle.context_diff.specs.Operations.{OpData}
use Rattle.site_answers.specs.declared.local.Local.{Local}
use Rattle.site_answers.specs.declared.local.Local.TheVariants as local
use Rattle.context_diff.specs.declared.op.Op.{Op}
use Rattle.participant.specs.declared.edits.Stopped.{Stopped}
use Rattle.participant.specs.declared.edits.Stopped.TheVariants as stopped
use Rattle.participant.specs.Reached.{Reached}
use Rattle.participant.specs.Edits.{IsDone}
use Rattle.cotpad_c.specs.declared.status.TheConstants.{OK, NO_MEMORY, PLACE_OUT, UNKNOWN, NOT_IN_FORCE, IN_FORCE, GENERATION_FULL, NUMBER_FULL, CONTEXT_FULL, TOO_SHORT, UNSETTLED}

-- the number of each refusal
abbrev pub refusal : Local → ℕ
refusal (local.PlaceOut v k) = PLACE_OUT
refusal (local.Unknown n) = UNKNOWN
refusal (local.NotInForce g) = NOT_IN_FORCE
refusal (local.InForce g) = IN_FORCE
refusal local.GenerationFull = GENERATION_FULL
refusal local.NumberFull = NUMBER_FULL
refusal (local.ContextFull k) = CONTEXT_FULL
refusal local.Memory = NO_MEMORY

-- the number of why edits stopped
abbrev pub stop_number : Stopped → ℕ
stop_number (stopped.Refused why) = refusal why
stop_number stopped.Unsettled = UNSETTLED

-- the number of an answer
abbrev pub number_of : {A : Type 0} → Result A Stopped → ℕ
number_of (Ok x) = OK
number_of (Err why) = stop_number why

-- a call that makes an edit, for which the definition has this operation or refusal: its number is that of how the edit was done
pub record Did (n : ℕ) (r : Result OpData Local) (a b : Reached) : Type 0 where
  pub answer : Result Op Stopped
  pub status : n ≡ number_of answer
  pub done : IsDone r a answer b

-- the bytes were made: they are handed out, or the buffer is too short for them
abbrev pub IsMade : ℕ → Type 0
IsMade n = (n ≡ OK) ⊎ (n ≡ TOO_SHORT)

-- bytes, or changes, that a call hands out into a buffer: all of them, or none where the buffer is too short; their number either way
pub record Wrote {A : Type 0} (n : ℕ) (them old new : List A) (needed : ℕ) : Type 0 where
  pub count : needed ≡ length them
  pub status : (n ≡ OK) ⊎ (n ≡ TOO_SHORT)
  pub all : n ≡ OK → new ≡ them ++ drop (length them) old
  pub short : n ≡ TOO_SHORT → (new ≡ old) × (length old < length them)
