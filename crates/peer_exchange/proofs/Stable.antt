-- What the bytes of a message say of it stays said, whatever follows them, unless they ask for more.
use Rattle.std.proofs.Common.{◌≡◌, ℕ, zero, suc, ◌+◌, ◌<◌, ltb, eqb, Bool, true, false, cond, List, ◌++◌, length, drop, Result, Ok, Err}
use Rattle.std.proofs.Common.{refl, ap, ◌∙◌, arith, inl, inr, ◌⊎◌}
use Rattle.std.specs.List.{starts_with}
use Rattle.std.proofs.lemmas.Bool.{ltb-false, le-ltb}
use Rattle.std.proofs.lemmas.List.{length-append, length-drop, take-append-le, drop-append-le}
use Rattle.context_vector.specs.Contexts.{ContextData}
use Rattle.context_diff.specs.Operations.{OpData}
use Rattle.wire_codec.specs.declared.version.Version.TheVariants.{Two}
use Rattle.wire_codec.specs.declared.fault.Refused.{Refused}
use Rattle.wire_codec.specs.declared.fault.Refused.TheVariants.{More, Bad}
use Rattle.wire_codec.specs.declared.fault.Unread.{Unread}
use Rattle.wire_codec.specs.declared.fault.Unread.TheVariants as unread
use Rattle.wire_codec.specs.Judging.{judge, length_of}
use Rattle.wire_codec.specs.Answers.{scan_of}
use Rattle.wire_codec.specs.States.{judge_state, state_scan_of}
use Rattle.wire_codec.proofs.CallerLemmas.{IsBytes, IsBytes-drop, bad_stays, state_stays}
use Rattle.peer_exchange.specs.declared.messages.Which.{Which}
use Rattle.peer_exchange.specs.declared.messages.Measure.{Measure}
use Rattle.peer_exchange.specs.declared.messages.Measure.TheVariants as message
use Rattle.peer_exchange.specs.declared.messages.PeerCause.TheVariants as cause
use Rattle.peer_exchange.specs.declared.stages.Stage.{Stage}
use Rattle.peer_exchange.specs.declared.stages.Stage.TheVariants.{Head, State, Frames}
use Rattle.peer_exchange.specs.declared.stages.Piece.{Piece}
use Rattle.peer_exchange.specs.declared.stages.Piece.TheVariants as part
use Rattle.peer_exchange.specs.Measuring.{head, stated, framed, piece_of, after_piece, pieces, measure_of, start}
use Rattle.peer_exchange.proofs.Staying.{by_false, by_true, is_there, judge_stays}

abbrev Says : Piece → Type 0
Says p = (n : ℕ) → ¬ (part.More n ≡ p)

split : (b : Bool) (x y z : Piece) → cond b x y ≡ z → ((b ≡ true) × (x ≡ z)) ⊎ ((b ≡ false) × (y ≡ z))
split true x y z e = inl (refl, e)
split false x y z e = inr (refl, e)

head_stays : (frames : Bool) (bytes more : List ℕ) (p : Piece) → Says p → piece_of (Head frames) bytes ≡ p
    → piece_of (Head frames) (bytes ++ more) ≡ p
head_stays frames bytes more p says e =
    let is_head = starts_with (λ (x : ℕ) (y : ℕ). eqb x y) bytes head in
    elim (split (ltb (length bytes) 8) (part.More 8) (cond is_head (part.Got (State frames) 8) (part.Bad 0 cause.Head)) p e) [
      | inl few ↦ absurd (says 8 few.1)
      | inr ready ↦
          let long = ltb-false _ _ ready.0 in
          let same : starts_with (λ (x : ℕ) (y : ℕ). eqb x y) (bytes ++ more) head ≡ is_head = rw (take-append-le 8 bytes more long) refl in
          by_false (ltb (length (bytes ++ more)) 8) _ _ (le-ltb _ _ (omega (arith, long, length-append bytes more)))
          ∙ (ap (λ (b : Bool). cond b (part.Got (State frames) 8) (part.Bad 0 cause.Head)) same ∙ ready.1)
    ]

state_part_stays : (frames : Bool) (bytes more : List ℕ) (p : Piece) → Says p → piece_of (State frames) bytes ≡ p
    → piece_of (State frames) (bytes ++ more) ≡ p
state_part_stays frames bytes more p says e = go (judge_state bytes) refl e
  where
    stays : (j : Result (ContextData × ℕ) Unread) → ((n : ℕ) → ¬ (Err (unread.More n) ≡ j)) → judge_state bytes ≡ j
        → stated frames (state_scan_of j) ≡ p → stated frames (state_scan_of (judge_state (bytes ++ more))) ≡ p
    stays j told is same =
        ap (λ (x : Result (ContextData × ℕ) Unread). stated frames (state_scan_of x)) (state_stays bytes more j told is) ∙ same

    go : (j : Result (ContextData × ℕ) Unread) → judge_state bytes ≡ j → stated frames (state_scan_of j) ≡ p
        → stated frames (state_scan_of (judge_state (bytes ++ more))) ≡ p
    go (Ok x) is same = stays (Ok x) (λ n never. cc) is same
    go (Err (unread.More n)) is same = absurd (says n same)
    go (Err (unread.Bad f)) is same = stays (Err (unread.Bad f)) (λ n never. cc) is same

frame_part_stays : (bytes more : List ℕ) (p : Piece) → IsBytes bytes → Says p → piece_of Frames bytes ≡ p
    → piece_of Frames (bytes ++ more) ≡ p
frame_part_stays bytes more p fits says e =
    elim (split (ltb (length bytes) 4) (part.More 4) (cond (eqb (length_of bytes) 0) (part.Whole 4) (framed (scan_of (judge Two bytes)))) p
    e) [
      | inl few ↦ absurd (says 4 few.1)
      | inr ready ↦
          let long = ltb-false _ _ ready.0 in
          let same : eqb (length_of (bytes ++ more)) 0 ≡ eqb (length_of bytes) 0 = rw (take-append-le 4 bytes more long) refl in
          by_false (ltb (length (bytes ++ more)) 4) _ _ (le-ltb _ _ (omega (arith, long, length-append bytes more)))
          ∙ elim (split (eqb (length_of bytes) 0) (part.Whole 4) (framed (scan_of (judge Two bytes))) p ready.1) [
            | inl ended ↦ by_true (eqb (length_of (bytes ++ more)) 0) _ _ (same ∙ ended.0) ∙ ended.1
            | inr goes ↦ by_false (eqb (length_of (bytes ++ more)) 0) _ _ (same ∙ goes.0) ∙ go (judge Two bytes) refl goes.1
          ]
    ]
  where
    go : (j : Result (OpData × ℕ) Refused) → judge Two bytes ≡ j → framed (scan_of j) ≡ p → framed (scan_of (judge Two (bytes ++ more))) ≡ p
    go (Ok x) is same = ap (λ (x : Result (OpData × ℕ) Refused). framed (scan_of x)) (judge_stays bytes x.0 x.1 fits is more) ∙ same
    go (Err (More n)) is same = absurd (says n same)
    go (Err (Bad f)) is same = ap (λ (x : Result (OpData × ℕ) Refused). framed (scan_of x)) (bad_stays Two bytes more f is) ∙ same

piece_stays : (s : Stage) (bytes more : List ℕ) (p : Piece) → IsBytes bytes → Says p → piece_of s bytes ≡ p → piece_of s (bytes ++ more) ≡ p
piece_stays (Head frames) bytes more p fits says e = head_stays frames bytes more p says e
piece_stays (State frames) bytes more p fits says e = state_part_stays frames bytes more p says e
piece_stays Frames bytes more p fits says e = frame_part_stays bytes more p fits says e

abbrev Decides : Measure → Type 0
Decides m = (n : ℕ) → ¬ (message.More n ≡ m)

-- more steps than bytes, with more bytes after them
pieces_stay : (n m : ℕ) (s : Stage) (at : ℕ) (bytes more : List ℕ) (y : Measure) → IsBytes bytes → Decides y → length bytes < n
    → length (bytes ++ more) < m → pieces n s at bytes ≡ y → pieces m s at (bytes ++ more) ≡ y
unfolding pieces
pieces_stay zero m s at bytes more y fits decides few many e = absurd (omega (arith, few))
pieces_stay (suc n) zero s at bytes more y fits decides few many e = absurd (omega (arith, many))
pieces_stay (suc n) (suc m) s at bytes more y fits decides few many e =
    go (λ next used. pieces_stay n m next (at + used) (drop used bytes) more y) (piece_of s bytes) refl e
  where
    before : Piece → Measure
    before p = after_piece (λ next used. pieces n next (at + used) (drop used bytes)) at p

    behind : Piece → Measure
    behind p = after_piece (λ next used. pieces m next (at + used) (drop used (bytes ++ more))) at p

    go : ((next : Stage) (used : ℕ) → IsBytes (drop used bytes) → Decides y → length (drop used bytes) < n
        → length (drop used bytes ++ more) < m → pieces n next (at + used) (drop used bytes) ≡ y
        → pieces m next (at + used) (drop used bytes ++ more) ≡ y)
        → (p : Piece) → piece_of s bytes ≡ p → before p ≡ y → behind (piece_of s (bytes ++ more)) ≡ y
    go again (part.Got next used) is says =
        let there = is_there s bytes next used fits is in
        let some = there.some in
        let within = there.within in
        let split_behind : drop used (bytes ++ more) ≡ drop used bytes ++ more = drop-append-le used bytes more within in
        ap behind (piece_stays s bytes more (part.Got next used) fits (λ n never. cc) is)
        ∙ (ap (λ (t : List ℕ). pieces m next (at + used) t) split_behind
        ∙ again next used (IsBytes-drop used bytes fits) decides (omega (arith, few, some, within, length-drop used bytes))
        (omega (arith, many, some, within, length-drop used bytes, length-append bytes more, length-append (drop used bytes) more)) says)
    go again (part.Whole used) is says = ap behind (piece_stays s bytes more (part.Whole used) fits (λ n never. cc) is) ∙ says
    go again (part.More n) is says = absurd (decides (at + n) says)
    go again (part.Bad offset cause) is says = ap behind (piece_stays s bytes more (part.Bad offset cause) fits (λ n never. cc) is) ∙ says

-- the message says the same of the bytes and of more
pub says_still : (which : Which) (bytes more : List ℕ) (y : Measure) → IsBytes bytes → Decides y → measure_of which bytes ≡ y
    → measure_of which (bytes ++ more) ≡ y
says_still which bytes more y fits decides e =
    pieces_stay (suc (length bytes)) (suc (length (bytes ++ more))) (start which) 0 bytes more y fits decides (omega arith) (omega arith) e
