-- The answers as the code gives them.
use Rattle.std.specs.Prelude.{ℕ, ◌<◌, ◌≤◌, List, ◌++◌, length, Result, Ok, Err}
use Rattle.context_diff.specs.Operations.{OpData}
use Rattle.context_diff.specs.Ops.{data_of}
use Rattle.wire_codec.specs.declared.answers.Scan.{Scan}
use Rattle.wire_codec.specs.declared.answers.Scan.TheVariants as scanned
use Rattle.wire_codec.specs.declared.answers.Decoded.{Decoded}
use Rattle.wire_codec.specs.declared.answers.Decoded.TheVariants as decoded
use Rattle.wire_codec.specs.declared.fault.Refused.{Refused}
use Rattle.wire_codec.specs.declared.fault.Refused.TheVariants.{More, Bad}
use Rattle.wire_codec.specs.declared.version.Version.{Version}
use Rattle.wire_codec.specs.Reading.{fault}
use Rattle.wire_codec.specs.Judging.{IsFrame}

-- the judgement without its operation
abbrev pub scan_of : Result (OpData × ℕ) Refused → Scan
scan_of (Ok x) = scanned.Frame x.1
scan_of (Err (More n)) = scanned.More n
scan_of (Err (Bad f)) = scanned.Bad f.cause f.offset

-- the judgement that an answer is
abbrev pub judgement_of : Decoded → Result (OpData × ℕ) Refused
judgement_of (decoded.Got op used) = Ok (data_of op, used)
judgement_of (decoded.More n) = Err (More n)
judgement_of (decoded.Bad cause offset) = Err (Bad (fault cause offset))

-- the bytes begin with the frame of some well-formed operation
pub record BeginsWithFrame (v : Version) (bytes : List ℕ) (used : ℕ) : Type 0 where
  pub op : OpData
  pub is : IsFrame v bytes op used

-- the bytes begin with a frame of this version
abbrev pub HasFrame : Version → List ℕ → Type 0
HasFrame v bytes = (used : ℕ) × BeginsWithFrame v bytes used

-- a fault is in the bytes, and more bytes don't help: no continuation of them begins with a frame
pub record IsBad (v : Version) (bytes : List ℕ) (offset : ℕ) : Type 0 where
  pub within : offset ≤ length bytes
  pub never : (more : List ℕ) → ¬ HasFrame v (bytes ++ more)

-- what each answer says of the bytes
abbrev pub SaysOf : Version → List ℕ → Scan → Type 0
SaysOf v bytes (scanned.Frame used) = BeginsWithFrame v bytes used
SaysOf v bytes (scanned.More n) = length bytes < n
SaysOf v bytes (scanned.Bad cause offset) = IsBad v bytes offset

abbrev pub TellsOf : Version → List ℕ → Decoded → Type 0
TellsOf v bytes (decoded.Got op used) = IsFrame v bytes (data_of op) used
TellsOf v bytes (decoded.More n) = length bytes < n
TellsOf v bytes (decoded.Bad cause offset) = IsBad v bytes offset
