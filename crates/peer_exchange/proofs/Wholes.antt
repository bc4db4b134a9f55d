-- A message that was written is whole.
use Rattle.std.proofs.Common.{◌≡◌, ℕ, zero, suc, ◌+◌, ◌-◌, ◌<◌, ◌≤◌, ltb, eqb, Bool, true, false, List, [], ◌∷◌, ◌++◌, length, drop}
use Rattle.std.proofs.Common.{Result, Ok, refl, ap, sym, subst, ◌∙◌, append_assoc, append-nil, arith}
use Rattle.std.specs.List.{flat_map, starts_with}
use Rattle.std.proofs.lemmas.Bool.{le-ltb, or_parts}
use Rattle.std.proofs.lemmas.List.{length-append, drop_at}
use Rattle.std.proofs.lemmas.List.Concat.{flat_map-cons}
use Rattle.context_vector.specs.Contexts.{ContextData}
use Rattle.context_diff.specs.Operations.{OpData}
use Rattle.context_diff.proofs.CallerLemmas.{contains_here, contains_later}
use Rattle.wire_codec.specs.declared.version.Version.TheVariants.{Two}
use Rattle.wire_codec.specs.declared.fault.Refused.{Refused}
use Rattle.wire_codec.specs.declared.fault.Unread.{Unread}
use Rattle.wire_codec.specs.Spelling.{frame}
use Rattle.wire_codec.specs.Judging.{judge, length_of}
use Rattle.wire_codec.specs.Answers.{scan_of}
use Rattle.wire_codec.specs.States.{IsState, state_bytes, judge_state, state_scan_of}
use Rattle.wire_codec.proofs.CallerLemmas.{fits_two, judge_again, state_again}
use Rattle.peer_exchange.specs.declared.messages.Measure.TheVariants as message
use Rattle.peer_exchange.specs.declared.messages.Which.TheVariants.{First, Second, Third}
use Rattle.peer_exchange.specs.declared.messages.PeerCause.TheVariants as causes
use Rattle.peer_exchange.specs.declared.stages.Piece.TheVariants as part
use Rattle.peer_exchange.specs.declared.stages.Stage.TheVariants as stage
use Rattle.peer_exchange.specs.Measuring.{head, head_piece, stated, framed, frame_piece, after_piece, pieces}
use Rattle.peer_exchange.specs.Messages.{end_mark, telling, IsFirst, IsSecond, IsThird}
use Rattle.peer_exchange.specs.Refusals.{IsWhole}
use Rattle.peer_exchange.specs.Exchanges.{MessagesAreWhole}
use Rattle.peer_exchange.proofs.Staying.{by_false, by_true}
use Rattle.peer_exchange.proofs.Receivings.{first_frame, frame_says}

-- ---- frames

frame_got : (bytes : List ℕ) (o : OpData) (os : List OpData) → IsThird bytes (o ∷ os)
    → frame_piece bytes ≡ part.Got stage.Frames (length (frame Two o))
frame_got bytes o os is =
    let there = or_parts (ltb (length bytes) 4) (eqb (length_of bytes) 0) (frame_says bytes o os is) in
    let well = is.formed o (contains_here o os) in
    let read : judge Two bytes ≡ Ok (o, length (frame Two o)) =
    ap (judge Two) (first_frame bytes o os is) ∙ judge_again Two o (flat_map (frame Two) os ++ end_mark) well (fits_two o well) in
    by_false (ltb (length bytes) 4) _ _ there.0
    ∙ (by_false (eqb (length_of bytes) 0) _ _ there.1 ∙ ap (λ (j : Result (OpData × ℕ) Refused). framed (scan_of j)) read)

pub behind_frame : (bytes : List ℕ) (o : OpData) (os : List OpData) → IsThird bytes (o ∷ os)
    → IsThird (drop (length (frame Two o)) bytes) os
behind_frame bytes o os is = record {
  formed = λ p at. is.formed p (contains_later o os p at);
  parts =
      ap (drop (length (frame Two o))) (first_frame bytes o os is)
      ∙ drop_at (frame Two o) (flat_map (frame Two) os ++ end_mark) (length (frame Two o)) refl;
}

frames_whole : (n at : ℕ) (os : List OpData) (bytes : List ℕ) → IsThird bytes os → length os < n
    → pieces n stage.Frames at bytes ≡ message.Whole (at + length bytes)
unfolding pieces
frames_whole zero at os bytes is few = absurd (omega (arith, few))
frames_whole (suc n) at [] bytes is few =
    subst (λ (xs : List ℕ). pieces (suc n) stage.Frames at xs ≡ message.Whole (at + length xs)) (sym is.parts) refl
frames_whole (suc n) at (o ∷ os) bytes is few =
    let size = length (frame Two o) in
    let behind = flat_map (frame Two) os ++ end_mark in
    let parts = first_frame bytes o os is in
    let left : drop size bytes ≡ behind = (behind_frame bytes o os is).parts in
    let total : length bytes ≡ size + length (drop size bytes) =
    ap length parts ∙ (length-append (frame Two o) behind ∙ ap (λ (xs : List ℕ). size + length xs) (sym left)) in
    ap (after_piece (λ next used. pieces n next (at + used) (drop used bytes)) at) (frame_got bytes o os is)
    ∙ (frames_whole n (at + size) os (drop size bytes) (behind_frame bytes o os is) (omega (arith, few))
    ∙ ap (λ (k : ℕ). message.Whole k) (omega (arith, total)))

-- each frame has a byte
few_frames : (os : List OpData) → length os ≤ length (flat_map (frame Two) os)
few_frames [] = omega arith
few_frames (o ∷ os) =
    let rest = few_frames os in
    omega (arith, rest, ap length (flat_map-cons (frame Two) o os), length-append (frame Two o) (flat_map (frame Two) os))

third_whole : (bytes : List ℕ) (os : List OpData) → IsThird bytes os → IsWhole Third bytes
third_whole bytes os is =
    let few = few_frames os in
    let total : length bytes ≡ length (flat_map (frame Two) os) + 4 =
    ap length is.parts ∙ length-append (flat_map (frame Two) os) end_mark in
    frames_whole (suc (length bytes)) 0 os bytes is (omega (arith, few, total)) ∙ ap (λ (k : ℕ). message.Whole k) (omega arith)

-- ---- heads and states

head_got : (frames : Bool) (rest : List ℕ) → head_piece frames (head ++ rest) ≡ part.Got (stage.State frames) 8
head_got frames rest =
    by_false (ltb (length (head ++ rest)) 8) _ _ (le-ltb _ _ (omega arith))
    ∙ by_true (starts_with (λ (x : ℕ) (y : ℕ). eqb x y) (head ++ rest) head) (part.Got (stage.State frames) 8) (part.Bad 0 causes.Head) refl

-- after the head and the state
module _ (bytes : List ℕ) (c : ContextData) (rest : List ℕ) (is : IsState c) (parts : bytes ≡ telling c ++ rest) where
  told_size : length bytes ≡ 8 + (length (state_bytes c) + length rest)
  told_size = ap length parts ∙ (ap length (append_assoc head (state_bytes c) rest) ∙ omega (arith, length-append (state_bytes c) rest))

  behind_head : drop 8 bytes ≡ state_bytes c ++ rest
  behind_head = ap (drop 8) (parts ∙ append_assoc head (state_bytes c) rest)

  behind_state : drop (length (state_bytes c)) (drop 8 bytes) ≡ rest
  behind_state = ap (drop (length (state_bytes c))) behind_head ∙ drop_at (state_bytes c) rest (length (state_bytes c)) refl

  told_says : (frames : Bool) (n : ℕ) → pieces (suc (suc n)) (stage.Head frames) 0 bytes
      ≡ after_piece (λ next used. pieces n next (8 + used) (drop used (drop 8 bytes))) 8
      (stated frames (state_scan_of (Ok (c, length (state_bytes c)))))
  unfolding pieces
  told_says frames n =
      let got : head_piece frames bytes ≡ part.Got (stage.State frames) 8 =
      ap (head_piece frames) (parts ∙ append_assoc head (state_bytes c) rest) ∙ head_got frames (state_bytes c ++ rest) in
      let read : judge_state (drop 8 bytes) ≡ Ok (c, length (state_bytes c)) = ap judge_state behind_head ∙ state_again c rest is in
      ap (after_piece (λ next used. pieces (suc n) next (0 + used) (drop used bytes)) 0) got
      ∙ ap (λ (j : Result (ContextData × ℕ) Unread). after_piece (λ next used. pieces n next (8 + used) (drop used (drop 8 bytes))) 8
      (stated frames (state_scan_of j))) read

  -- as many steps as there are bytes, and one
  told_measure : (frames : Bool) → pieces (suc (length bytes)) (stage.Head frames) 0 bytes
      ≡ after_piece (λ next used. pieces (length bytes - 1) next (8 + used) (drop used (drop 8 bytes))) 8
      (stated frames (state_scan_of (Ok (c, length (state_bytes c)))))
  told_measure frames =
      let size = told_size in
      let steps : length bytes ≡ suc (length bytes - 1) = omega (arith, size) in
      ap (λ (k : ℕ). pieces (suc k) (stage.Head frames) 0 bytes) steps ∙ told_says frames (length bytes - 1)

first_whole : (bytes : List ℕ) (c : ContextData) → IsFirst bytes c → IsWhole First bytes
first_whole bytes c is =
    let parts : bytes ≡ telling c ++ [] = is.parts ∙ sym (append-nil (telling c)) in
    let size = told_size bytes c [] is.is parts in
    told_measure bytes c [] is.is parts false ∙ ap (λ (k : ℕ). message.Whole k) (omega (arith, size))

second_whole : (bytes : List ℕ) (c : ContextData) (os : List OpData) → IsSecond bytes c os → IsWhole Second bytes
second_whole bytes c os is =
    let rest = flat_map (frame Two) os ++ end_mark in
    let size = told_size bytes c rest is.is is.parts in
    let left = behind_state bytes c rest is.is is.parts in
    let used = length (state_bytes c) in
    let few = few_frames os in
    let third : IsThird (drop used (drop 8 bytes)) os = record { formed = is.formed; parts = left } in
    let total : length (drop used (drop 8 bytes)) ≡ length rest = ap length left in
    told_measure bytes c rest is.is is.parts true
    ∙ (frames_whole (length bytes - 1) (8 + used) os (drop used (drop 8 bytes)) third
    (omega (arith, size, few, length-append (flat_map (frame Two) os) end_mark))
    ∙ ap (λ (k : ℕ). message.Whole k) (omega (arith, size, total)))

pub messages_are_whole : MessagesAreWhole
messages_are_whole = record { first = first_whole; second = second_whole; third = third_whole }
