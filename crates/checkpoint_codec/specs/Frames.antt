-- Frames of version 2, one after the other, and the first place at which none stands.
use Rattle.std.specs.Prelude.{◌≡◌, ◌≢◌, ℕ, ◌+◌, List, [], ◌∷◌, ◌++◌, length, Err}
use Rattle.std.specs.List.{flat_map}
use Rattle.context_diff.specs.Operations.{OpData, IsWellFormed}
use Rattle.wire_codec.specs.declared.cause.Cause.{Cause}
use Rattle.wire_codec.specs.declared.fault.Refused.TheVariants as judged
use Rattle.wire_codec.specs.declared.version.Version.TheVariants.{Two}
use Rattle.wire_codec.specs.Spelling.{frame}
use Rattle.wire_codec.specs.Reading.{fault}
use Rattle.wire_codec.specs.Judging.{judge}
use Rattle.checkpoint_codec.specs.declared.refusal.CheckpointBad.{CheckpointBad}
use Rattle.checkpoint_codec.specs.declared.refusal.CheckpointBad.TheVariants.{Header, Cut, Bad, Memory}

abbrev pub frames : List OpData → List ℕ
frames os = flat_map (frame Two) os

abbrev pub AreFormed : List OpData → Type 0
AreFormed [] = Unit {0}
AreFormed (o ∷ os) = IsWellFormed o × AreFormed os

-- the frames of these well-formed operations stand first, then the rest
pub record BeginWith (bytes : List ℕ) (os : List OpData) (rest : List ℕ) : Type 0 where
  pub formed : AreFormed os
  pub parts : bytes ≡ frames os ++ rest

-- the frames of these operations, and nothing else
abbrev pub AreFrames : List ℕ → List OpData → Type 0
AreFrames bytes os = BeginWith bytes os []

-- frames begin at this offset, and in the one that begins here the bytes end
pub record IsCutFrame (bytes : List ℕ) (at offset : ℕ) : Type 0 where
  pub before : List OpData
  pub rest : List ℕ
  pub begin : BeginWith bytes before rest
  pub some : rest ≢ []
  pub needed : ℕ
  pub judged : judge Two rest ≡ Err (judged.More needed)
  pub place : offset ≡ at + length (frames before)

-- after some comes what begins with no frame, and this is its first fault
pub record IsBadFrame (bytes : List ℕ) (at offset : ℕ) (cause : Cause) : Type 0 where
  pub before : List OpData
  pub rest : List ℕ
  pub begin : BeginWith bytes before rest
  pub within : ℕ
  pub judged : judge Two rest ≡ Err (judged.Bad (fault cause within))
  pub place : offset ≡ (at + length (frames before)) + within

-- the first fault of frames that begin at this offset
abbrev pub IsNoFrame : List ℕ → ℕ → CheckpointBad → Type 0
IsNoFrame bytes at Header = ⊥
IsNoFrame bytes at (Cut offset) = IsCutFrame bytes at offset
IsNoFrame bytes at (Bad offset cause) = IsBadFrame bytes at offset cause
IsNoFrame bytes at Memory = ⊥
