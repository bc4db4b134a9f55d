-- How long a message is, as far as its bytes tell: a chain of parts, each of which says by its own front how long it is.
use Rattle.std.specs.Prelude.{◌≡◌, ℕ, zero, suc, ◌+◌, ◌==◌, Bool, true, false, List, length, drop, codes, nat_lt, if◌then◌else◌}
use Rattle.std.specs.List.{starts_with}
use Rattle.wire_codec.specs.declared.version.Version.TheVariants.{Two}
use Rattle.wire_codec.specs.declared.answers.Scan.{Scan}
use Rattle.wire_codec.specs.declared.answers.Scan.TheVariants as scanned
use Rattle.wire_codec.specs.declared.state_answers.StateScan.{StateScan}
use Rattle.wire_codec.specs.declared.state_answers.StateScan.TheVariants as state
use Rattle.wire_codec.specs.Judging.{judge, length_of}
use Rattle.wire_codec.specs.Answers.{scan_of}
use Rattle.wire_codec.specs.States.{judge_state, state_scan_of}
use Rattle.peer_exchange.specs.declared.messages.Which.{Which}
use Rattle.peer_exchange.specs.declared.messages.Which.TheVariants.{First, Second, Third}
use Rattle.peer_exchange.specs.declared.messages.PeerCause.TheVariants as causes
use Rattle.peer_exchange.specs.declared.messages.Measure.{Measure}
use Rattle.peer_exchange.specs.declared.messages.Measure.TheVariants as message
use Rattle.peer_exchange.specs.declared.stages.Stage.{Stage}
use Rattle.peer_exchange.specs.declared.stages.Stage.TheVariants.{Head, State, Frames}
use Rattle.peer_exchange.specs.declared.stages.Piece.{Piece}
use Rattle.peer_exchange.specs.declared.stages.Piece.TheVariants as part

-- a message, as far as it came
pub record MessageData : Type 0 where
  pub which : Which
  pub bytes : List ℕ

-- the part with which a message begins
abbrev pub start : Which → Stage
start First = Head false
start Second = Head true
start Third = Frames

-- the eight bytes of a head, which say the version of the state and of the frames
abbrev pub head : List ℕ
head = codes "COTVEC2\n"

-- a head, before a state that frames follow or not
abbrev pub head_piece : Bool → List ℕ → Piece
head_piece frames bytes =
    if nat_lt (length bytes) 8 then part.More 8
    else if starts_with (λ x y. x == y) bytes head then part.Got (State frames) 8 else part.Bad 0 causes.Head

-- a state, which frames follow or not
abbrev pub stated : Bool → StateScan → Piece
stated frames (state.State used) = if frames then part.Got Frames used else part.Whole used
stated frames (state.More n) = part.More n
stated frames (state.Bad cause offset) = part.Bad offset (causes.Frame cause)

abbrev pub state_piece : Bool → List ℕ → Piece
state_piece frames bytes = stated frames (state_scan_of (judge_state bytes))

-- a frame, or the end mark of four zero bytes
abbrev pub framed : Scan → Piece
framed (scanned.Frame used) = part.Got Frames used
framed (scanned.More n) = part.More n
framed (scanned.Bad cause offset) = part.Bad offset (causes.Frame cause)

abbrev pub frame_piece : List ℕ → Piece
frame_piece bytes =
    if nat_lt (length bytes) 4 then part.More 4
    else if length_of bytes == 0 then part.Whole 4 else framed (scan_of (judge Two bytes))

abbrev pub piece_of : Stage → List ℕ → Piece
piece_of (Head frames) bytes = head_piece frames bytes
piece_of (State frames) bytes = state_piece frames bytes
piece_of Frames bytes = frame_piece bytes

-- what a part at an offset says of the message; after a part that is there, the next one says it
abbrev pub after_piece : (Stage → ℕ → Measure) → ℕ → Piece → Measure
after_piece follows at (part.Got next used) = follows next used
after_piece follows at (part.Whole used) = message.Whole (at + used)
after_piece follows at (part.More n) = message.More (at + n)
after_piece follows at (part.Bad offset cause) = message.Bad (at + offset) cause

-- at most so many parts
unfoldable pub pieces : ℕ → Stage → ℕ → List ℕ → Measure
pieces zero s at bytes = message.More at
pieces (suc n) s at bytes = after_piece (λ next used. pieces n next (at + used) (drop used bytes)) at (piece_of s bytes)

-- each part that is there has a byte, so there are no more parts than bytes
abbrev pub measured : Stage → ℕ → List ℕ → Measure
measured s at bytes = pieces (suc (length bytes)) s at bytes

-- what the bytes say of the message that they begin
abbrev pub measure_of : Which → List ℕ → Measure
measure_of which bytes = measured (start which) 0 bytes

-- the message, if it is there, ends where the bytes do
abbrev pub NotPast : Which → List ℕ → Type 0
NotPast which bytes = (used : ℕ) → measure_of which bytes ≡ message.Whole used → used ≡ length bytes
