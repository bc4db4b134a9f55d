-- A fault of a message is in its head or in a field: that it ends too early, or too late, is never said of its bytes alone.
use Rattle.std.proofs.Common.{◌≡◌, ℕ, zero, suc, ◌+◌, ltb, eqb, Bool, true, false, cond, List, length, drop, Result, Ok, Err, subst}
use Rattle.std.specs.List.{starts_with}
use Rattle.context_vector.specs.Contexts.{ContextData}
use Rattle.context_diff.specs.Operations.{OpData}
use Rattle.wire_codec.specs.declared.version.Version.TheVariants.{Two}
use Rattle.wire_codec.specs.declared.fault.Refused.{Refused}
use Rattle.wire_codec.specs.declared.fault.Refused.TheVariants.{More, Bad}
use Rattle.wire_codec.specs.declared.fault.Unread.{Unread}
use Rattle.wire_codec.specs.declared.fault.Unread.TheVariants as unread
use Rattle.wire_codec.specs.Judging.{judge, length_of}
use Rattle.wire_codec.specs.Answers.{scan_of}
use Rattle.wire_codec.specs.States.{judge_state, state_scan_of}
use Rattle.peer_exchange.specs.declared.messages.Which.{Which}
use Rattle.peer_exchange.specs.declared.messages.PeerCause.{PeerCause}
use Rattle.peer_exchange.specs.declared.messages.PeerCause.TheVariants as cause
use Rattle.peer_exchange.specs.declared.messages.Measure.{Measure}
use Rattle.peer_exchange.specs.declared.messages.Measure.TheVariants as message
use Rattle.peer_exchange.specs.declared.stages.Stage.{Stage}
use Rattle.peer_exchange.specs.declared.stages.Stage.TheVariants.{Head, State, Frames}
use Rattle.peer_exchange.specs.declared.stages.Piece.{Piece}
use Rattle.peer_exchange.specs.declared.stages.Piece.TheVariants as part
use Rattle.peer_exchange.specs.Measuring.{head, stated, framed, piece_of, after_piece, pieces, measure_of, start}

abbrev pub IsInside : PeerCause → Type 0
IsInside cause.Head = Unit {0}
IsInside (cause.Frame why) = Unit {0}
IsInside cause.Cut = ⊥
IsInside cause.Extra = ⊥
IsInside cause.Limit = ⊥

abbrev FailsInside : Piece → Type 0
FailsInside (part.Got next used) = Unit {0}
FailsInside (part.Whole used) = Unit {0}
FailsInside (part.More n) = Unit {0}
FailsInside (part.Bad offset why) = IsInside why

abbrev SaysInside : Measure → Type 0
SaysInside (message.Whole used) = Unit {0}
SaysInside (message.More n) = Unit {0}
SaysInside (message.Bad offset why) = IsInside why

either : (b : Bool) (x y : Piece) → FailsInside x → FailsInside y → FailsInside (cond b x y)
either true x y first second = first
either false x y first second = second

stated_inside : (frames : Bool) (j : Result (ContextData × ℕ) Unread) → FailsInside (stated frames (state_scan_of j))
stated_inside true (Ok x) = tt
stated_inside false (Ok x) = tt
stated_inside frames (Err (unread.More n)) = tt
stated_inside frames (Err (unread.Bad f)) = tt

framed_inside : (j : Result (OpData × ℕ) Refused) → FailsInside (framed (scan_of j))
framed_inside (Ok x) = tt
framed_inside (Err (More n)) = tt
framed_inside (Err (Bad f)) = tt

piece_inside : (s : Stage) (bytes : List ℕ) → FailsInside (piece_of s bytes)
piece_inside (Head frames) bytes =
    let is_head = starts_with (λ (x : ℕ) (y : ℕ). eqb x y) bytes head in
    let fault : Piece = part.Bad 0 cause.Head in
    either (ltb (length bytes) 8) (part.More 8) (cond is_head (part.Got (State frames) 8) fault) tt
    (either is_head (part.Got (State frames) 8) fault tt tt)
piece_inside (State frames) bytes = stated_inside frames (judge_state bytes)
piece_inside Frames bytes =
    let is_end = eqb (length_of bytes) 0 in
    let said = framed (scan_of (judge Two bytes)) in
    either (ltb (length bytes) 4) (part.More 4) (cond is_end (part.Whole 4) said) tt
    (either is_end (part.Whole 4) said tt (framed_inside (judge Two bytes)))

on_inside : (follows : Stage → ℕ → Measure) (at : ℕ) (p : Piece) → ((next : Stage) (used : ℕ) → SaysInside (follows next used))
    → FailsInside p → SaysInside (after_piece follows at p)
on_inside follows at (part.Got next used) later here = later next used
on_inside follows at (part.Whole used) later here = tt
on_inside follows at (part.More n) later here = tt
on_inside follows at (part.Bad offset why) later here = here

pieces_inside : (n : ℕ) (s : Stage) (at : ℕ) (bytes : List ℕ) → SaysInside (pieces n s at bytes)
unfolding pieces
pieces_inside zero s at bytes = tt
pieces_inside (suc n) s at bytes =
    on_inside (λ next used. pieces n next (at + used) (drop used bytes)) at (piece_of s bytes)
    (λ next used. pieces_inside n next (at + used) (drop used bytes)) (piece_inside s bytes)

pub bad_inside : (which : Which) (bytes : List ℕ) (offset : ℕ) (why : PeerCause) → measure_of which bytes ≡ message.Bad offset why
    → IsInside why
bad_inside which bytes offset why e = subst SaysInside e (pieces_inside (suc (length bytes)) (start which) 0 bytes)
