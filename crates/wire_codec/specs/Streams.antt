-- Streams of frames: the bytes fed, cut into frames from the front.
use Rattle.std.specs.Prelude.{◌≡◌, ℕ, ◌+◌, List, [], ◌∷◌, ◌++◌, length, Option, Some, None, Result, Ok, Err}
use Rattle.context_diff.specs.Operations.{OpData, IsWellFormed}
use Rattle.context_diff.specs.declared.op.Op.{Op}
use Rattle.context_diff.specs.Ops.{data_of}
use Rattle.wire_codec.specs.declared.stream.StreamBad.{StreamBad}
use Rattle.wire_codec.specs.declared.stream.StreamBad.TheVariants as refusals
use Rattle.wire_codec.specs.declared.fault.Refused.{Refused}
use Rattle.wire_codec.specs.declared.fault.Refused.TheVariants.{More, Bad}
use Rattle.wire_codec.specs.declared.version.Version.{Version}
use Rattle.wire_codec.specs.Versions.{Fits}
use Rattle.wire_codec.specs.Spelling.{frame}
use Rattle.wire_codec.specs.Reading.{fault}
use Rattle.wire_codec.specs.StreamData.{StreamData}

-- a piece follows the bytes left
pub record Feeds (old : StreamData) (piece : List ℕ) (new : StreamData) : Type 0 where
  pub version : new.version ≡ old.version
  pub taken : new.taken ≡ old.taken
  pub left : new.left ≡ old.left ++ piece

-- the frame of the operation is taken from the front
pub record TakesOp (old : StreamData) (op : OpData) (new : StreamData) : Type 0 where
  pub well : IsWellFormed op
  pub fits : Fits old.version op
  pub version : new.version ≡ old.version
  pub left : old.left ≡ frame old.version op ++ new.left
  pub taken : new.taken ≡ old.taken + length (frame old.version op)

-- an answer takes the frame of its operation, and any other takes nothing
abbrev pub TakesAnswer : StreamData → Result (Option Op) StreamBad → StreamData → Type 0
TakesAnswer old (Ok (Some op)) new = TakesOp old (data_of op) new
TakesAnswer old (Ok None) new = new ≡ old
TakesAnswer old (Err e) new = new ≡ old

-- the judgement of the bytes left, offsets counted from the first byte fed; out of memory says nothing of it
abbrev pub IsAnswer : Version → ℕ → Result (Option Op) StreamBad → Result (OpData × ℕ) Refused → Type 0
IsAnswer v taken (Ok (Some op)) j = j ≡ Ok (data_of op, length (frame v (data_of op)))
IsAnswer v taken (Ok None) j = (n : ℕ) × (j ≡ Err (More n))
IsAnswer v taken (Err (refusals.Bad cause offset)) j = (place : ℕ) × (j ≡ Err (Bad (fault cause place))) × (offset ≡ taken + place)
IsAnswer v taken (Err refusals.Memory) j = Unit {0}

-- what a call did: a piece was fed, an operation was taken, or nothing changed
pub data Call : Type 0 where
  feed : List ℕ → Call
  take : OpData → Call
  stay : Call

abbrev pub Does : Call → StreamData → StreamData → Type 0
Does (feed piece) old new = Feeds old piece new
Does (take op) old new = TakesOp old op new
Does stay old new = new ≡ old

abbrev pub Runs : List Call → StreamData → StreamData → Type 0
Runs [] old new = new ≡ old
Runs (c ∷ cs) old new = (between : StreamData) × Does c old between × Runs cs between new

abbrev pub bytes_fed : Call → List ℕ
bytes_fed (feed piece) = piece
bytes_fed (take op) = []
bytes_fed stay = []

abbrev pub ops_taken : Call → List OpData
ops_taken (feed piece) = []
ops_taken (take op) = op ∷ []
ops_taken stay = []
