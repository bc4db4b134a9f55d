-- Reading a log: its operations, or why the bytes are no log.
use Rattle.std.specs.Prelude.{◌≡◌, ◌≢◌, ℕ, ◌+◌, List, [], ◌∷◌, ◌++◌, Err, length, map}
use Rattle.context_diff.specs.Operations.{OpData}
use Rattle.context_diff.specs.Ops.{data_of}
use Rattle.wire_codec.specs.declared.cause.Cause.{Cause}
use Rattle.wire_codec.specs.declared.fault.Refused.TheVariants.{More, Bad}
use Rattle.wire_codec.specs.declared.version.Version.{Version}
use Rattle.wire_codec.specs.Spelling.{frame}
use Rattle.wire_codec.specs.Reading.{fault}
use Rattle.wire_codec.specs.Judging.{judge}
use Rattle.session_log.specs.declared.headers.TheConstants.{HEADER_LEN}
use Rattle.session_log.specs.declared.log_bad.LogBad.{LogBad}
use Rattle.session_log.specs.declared.log_bad.LogBad.TheVariants as bad
use Rattle.session_log.specs.declared.placed.Placed.{Placed}
use Rattle.session_log.specs.Logs.{header, BeginsWith, offset_after, IsLogOf}

-- an operation, and the offset of its frame
pub record PlacedData : Type 0 where
  pub offset : ℕ
  pub op : OpData

abbrev pub placed_data : Placed → PlacedData
placed_data p = record { offset = p.offset; op = data_of p.op }

-- these operations, whose frames in a version lie one after the other, each with the offset of its frame, from this offset on
abbrev pub placed_from : Version → ℕ → List OpData → List PlacedData
placed_from v at [] = []
placed_from v at (o ∷ os) = record { offset = at; op = o } ∷ placed_from v (at + length (frame v o)) os

-- the operations of the log now stand at the end of the list, in order, each with the offset of its frame
pub record IsListed (bytes : List ℕ) (old new : List Placed) : Type 0 where
  pub ops : List OpData
  pub log : IsLogOf bytes ops
  pub more : List Placed
  pub listed : new ≡ old ++ more
  pub placed : map placed_data more ≡ placed_from log.version HEADER_LEN ops

-- a frame begins at this offset, after the frames of well-formed operations, and the bytes end before it does
pub record IsCutAt (bytes : List ℕ) (offset : ℕ) : Type 0 where
  pub version : Version
  pub before : List OpData
  pub rest : List ℕ
  pub begins : BeginsWith version bytes before rest
  pub some : rest ≢ []
  pub needed : ℕ
  pub judged : judge version rest ≡ Err (More needed)
  pub place : offset ≡ offset_after version before

-- after the frames of well-formed operations comes what begins with no frame, and this is its first fault
pub record IsFaultyAt (bytes : List ℕ) (offset : ℕ) (cause : Cause) : Type 0 where
  pub version : Version
  pub before : List OpData
  pub rest : List ℕ
  pub begins : BeginsWith version bytes before rest
  pub within : ℕ
  pub judged : judge version rest ≡ Err (Bad (fault cause within))
  pub place : offset ≡ offset_after version before + within

-- a header stands first, and the frame of an operation is there, after those of others
pub record HasOperation (bytes : List ℕ) : Type 0 where
  pub version : Version
  pub before : List OpData
  pub op : OpData
  pub rest : List ℕ
  pub begins : BeginsWith version bytes (before ++ op ∷ []) rest

-- why the bytes were not read: no header stands first, or it does; memory is wanted for an operation that is there
abbrev pub IsUnread : List ℕ → LogBad → Type 0
IsUnread bytes bad.Header = (v : Version) (rest : List ℕ) → bytes ≢ header v ++ rest
IsUnread bytes (bad.Cut offset) = IsCutAt bytes offset
IsUnread bytes (bad.Bad offset cause) = IsFaultyAt bytes offset cause
IsUnread bytes (bad.Refused offset member verdict) = ⊥
IsUnread bytes bad.Memory = HasOperation bytes
