-- A place among the frames of a log, and the step over one frame.
use Rattle.std.specs.Prelude.{◌≡◌, ◌≢◌, ℕ, ◌+◌, List, [], Option, Some, None, Err, drop}
use Rattle.context_diff.specs.Operations.{OpData}
use Rattle.wire_codec.specs.declared.fault.Refused.TheVariants.{More, Bad}
use Rattle.wire_codec.specs.declared.version.Version.{Version}
use Rattle.wire_codec.specs.Reading.{fault}
use Rattle.wire_codec.specs.Judging.{judge, IsFrame}
use Rattle.wire_codec.specs.Answers.{HasFrame}
use Rattle.session_log.specs.declared.log_bad.LogBad.{LogBad}
use Rattle.session_log.specs.declared.log_bad.LogBad.TheVariants as bad

-- the version of a log, the bytes that are left of it, and the offset of the first of them
pub record LeftData : Type 0 where
  pub version : Version
  pub offset : ℕ
  pub bytes : List ℕ

-- the frame of the operation was passed over
pub record PassesOver (old : LeftData) (op : OpData) (new : LeftData) : Type 0 where
  pub used : ℕ
  pub is_frame : IsFrame old.version old.bytes op used
  pub version : new.version ≡ old.version
  pub offset : new.offset ≡ old.offset + used
  pub bytes : new.bytes ≡ drop used old.bytes

-- what a step does: it passes over the next frame, and without one it stays at the end
abbrev pub Steps : LeftData → Option OpData → LeftData → Type 0
Steps old None new = (old.bytes ≡ []) × (new ≡ old)
Steps old (Some op) new = PassesOver old op new

-- why there is no step
abbrev pub HasNoStep : LeftData → LogBad → Type 0
HasNoStep left bad.Header = ⊥
HasNoStep left (bad.Cut offset) = (left.bytes ≢ []) × ((n : ℕ) × (judge left.version left.bytes ≡ Err (More n))) × (offset ≡ left.offset)
HasNoStep left (bad.Bad offset cause) =
    (within : ℕ) × (judge left.version left.bytes ≡ Err (Bad (fault cause within))) × (offset ≡ left.offset + within)
HasNoStep left (bad.Refused offset member verdict) = ⊥
HasNoStep left bad.Memory = HasFrame left.version left.bytes
