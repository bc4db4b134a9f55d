-- Contexts by themselves: read as in a frame of version 2, from the first of some bytes on, whatever follows them.
use Rattle.std.specs.Prelude.{◌≡◌, ℕ, ◌+◌, ◌-◌, ◌*◌, ◌≤◌, Bool, true, false, List, ◌++◌, length, drop, Result, Ok, Err}
use Rattle.context_vector.specs.Contexts.{ContextData, IsContext, HasNoStray}
use Rattle.context_diff.specs.declared.op.TheConstants.{UNDO_ENTRIES}
use Rattle.wire_codec.specs.declared.cause.Cause.{Cause}
use Rattle.wire_codec.specs.declared.cause.Cause.TheVariants.{TooLong, Kind, Range, Char, Order, Zero, Length, Own, Target, Stray}
use Rattle.wire_codec.specs.declared.fault.Fault.{Fault}
use Rattle.wire_codec.specs.declared.context_answers.DecodedContext.{DecodedContext}
use Rattle.wire_codec.specs.declared.context_answers.DecodedContext.TheVariants as decoded
use Rattle.wire_codec.specs.declared.version.Version.TheVariants.{Two}
use Rattle.wire_codec.specs.declared.listing.Listing.TheVariants.{Runs}
use Rattle.wire_codec.specs.Runs.{runs_of}
use Rattle.wire_codec.specs.Spelling.{context_bytes}
use Rattle.wire_codec.specs.Reading.{left_at, fault, ◌>>=◌, context_at}
use Rattle.wire_codec.specs.Judging.{run_len, stray_from}

-- a context as a well-formed operation may have: few undone names, each an original of the context
pub record IsShort (c : ContextData) : Type 0 where
  pub is : IsContext c
  pub stray : HasNoStray c
  pub few : length c.entries ≤ UNDO_ENTRIES

-- ---- Judging

-- where the runs of a context begin that ends at `stop`
abbrev pub names_begin : ContextData → ℕ → ℕ
names_begin c stop = stop - run_len Runs * length (runs_of Runs c.entries)

-- the context that the bytes begin with, and how many bytes it has; or the first fault, which is Length where the bytes end too early
unfoldable pub judge_context : List ℕ → Result (ContextData × ℕ) Fault
judge_context bytes = do
  c ← context_at Two (left_at 0 bytes)
  _ ← stray_from Runs c.0 (names_begin c.0 c.1.at) (runs_of Runs c.0.entries)
  Ok (c.0, c.1.at)

-- a fault that more bytes may mend
abbrev pub is_length : Cause → Bool
is_length TooLong = false
is_length Kind = false
is_length Range = false
is_length Char = false
is_length Order = false
is_length Zero = false
is_length Length = true
is_length Own = false
is_length Target = false
is_length Stray = false

-- ---- What the answers say

-- the first `used` bytes are the spelling of this context
pub record IsContextOf (bytes : List ℕ) (c : ContextData) (used : ℕ) : Type 0 where
  pub is : IsShort c
  pub size : used ≡ length (context_bytes Two c)
  pub parts : bytes ≡ context_bytes Two c ++ drop used bytes

-- the bytes begin with some context
abbrev pub HasContext : List ℕ → Type 0
HasContext bytes = (c : ContextData) × (used : ℕ) × IsContextOf bytes c used

-- the bytes end in a field, before they have a context
pub record IsCutContext (bytes : List ℕ) (field : ℕ) : Type 0 where
  pub within : field ≤ length bytes
  pub none : ¬ HasContext bytes

-- a fault is in the bytes, and more bytes don't help
pub record IsBadContext (bytes : List ℕ) (cause : Cause) (offset : ℕ) : Type 0 where
  pub other : is_length cause ≡ false
  pub within : offset ≤ length bytes
  pub never : (more : List ℕ) → ¬ HasContext (bytes ++ more)

-- the judgement that an answer is
abbrev pub context_judgement_of : DecodedContext → Result (ContextData × ℕ) Fault
context_judgement_of (decoded.Got vector used) = Ok (vector.set, used)
context_judgement_of (decoded.More field) = Err (fault Length field)
context_judgement_of (decoded.Bad cause offset) = Err (fault cause offset)

-- more bytes are asked for where the bytes end too early, and only there
abbrev pub AsksForMore : DecodedContext → Type 0
AsksForMore (decoded.Got vector used) = Unit {0}
AsksForMore (decoded.More field) = Unit {0}
AsksForMore (decoded.Bad cause offset) = is_length cause ≡ false

-- what each answer says of the bytes
abbrev pub TellsOfContext : List ℕ → DecodedContext → Type 0
TellsOfContext bytes (decoded.Got vector used) = IsContextOf bytes vector.set used
TellsOfContext bytes (decoded.More field) = IsCutContext bytes field
TellsOfContext bytes (decoded.Bad cause offset) = IsBadContext bytes cause offset
