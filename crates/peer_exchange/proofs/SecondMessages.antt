-- A whole second message tells a state, and has frames after it.
use Rattle.std.proofs.Common.{◌≡◌, ℕ, zero, suc, ◌+◌, ◌≤◌, List, ◌++◌, length, drop, Result, Ok, Err, refl, sym, ap, subst, ◌∙◌}
use Rattle.std.proofs.Common.{append_assoc, arith, inl, inr, true}
use Rattle.std.proofs.lemmas.List.{length-append, length-drop, drop-drop}
use Rattle.context_vector.specs.Contexts.{ContextData}
use Rattle.context_diff.specs.Operations.{OpData}
use Rattle.cot_site.specs.States.{State}
use Rattle.wire_codec.specs.declared.fault.Unread.{Unread}
use Rattle.wire_codec.specs.declared.fault.Unread.TheVariants as unread
use Rattle.wire_codec.specs.States.{judge_state, state_bytes, state_scan_of}
use Rattle.wire_codec.proofs.CallerLemmas.{IsBytes, IsBytes-drop, state_takes}
use Rattle.peer_exchange.specs.declared.messages.Which.TheVariants.{Second, Third}
use Rattle.peer_exchange.specs.declared.messages.Measure.{Measure}
use Rattle.peer_exchange.specs.declared.messages.Measure.TheVariants as message
use Rattle.peer_exchange.specs.declared.peer.Peer.{Peer}
use Rattle.peer_exchange.specs.declared.peer.Peer.TheVariants as peer
use Rattle.peer_exchange.specs.declared.stages.Stage.{Stage}
use Rattle.peer_exchange.specs.declared.stages.Stage.TheVariants as stage
use Rattle.peer_exchange.specs.Measuring.{head, head_piece, stated, after_piece, pieces}
use Rattle.peer_exchange.specs.Messages.{telling, IsSecond, IsThird}
use Rattle.peer_exchange.specs.Refusals.{IsWhole, IsUnread}
use Rattle.peer_exchange.specs.Closing.{IsUnclosed, IsUnfinished}
use Rattle.peer_exchange.specs.Code.Receiving.{AreUntaken, IsToldUpTo}
use Rattle.peer_exchange.proofs.FirstMessages.{head_only}
use Rattle.peer_exchange.proofs.WholeFrames.{frames_end, whole_third}
use Rattle.peer_exchange.proofs.Receivings.{none_on_the_way}

-- a head is there, a state after it, and frames up to the end of the bytes
record IsTold (bytes : List ℕ) : Type 0 where
  state : ContextData
  used : ℕ
  long : 8 ≤ length bytes
  heads : bytes ≡ head ++ drop 8 bytes
  read : judge_state (drop 8 bytes) ≡ Ok (state, used)
  steps : ℕ
  frames : pieces steps stage.Frames (8 + used) (drop used (drop 8 bytes)) ≡ message.Whole (length bytes)

state_then : (j : Result (ContextData × ℕ) Unread) (len : ℕ) (f : Stage → ℕ → Measure)
    → after_piece f 8 (stated true (state_scan_of j)) ≡ message.Whole len
    → (c : ContextData) × (used : ℕ) × (j ≡ Ok (c, used)) × (f stage.Frames used ≡ message.Whole len)
state_then (Ok x) len f e = (x.0, x.1, refl, e)
state_then (Err (unread.More n)) len f e = absurd cc
state_then (Err (unread.Bad why)) len f e = absurd cc

-- what a message says after its head
state_after : (n : ℕ) (rest : List ℕ) (len : ℕ) → pieces n (stage.State true) 8 rest ≡ message.Whole len
    → (c : ContextData) × (used : ℕ) × (judge_state rest ≡ Ok (c, used)) × (steps : ℕ)
    × (pieces steps stage.Frames (8 + used) (drop used rest) ≡ message.Whole len)
unfolding pieces
state_after zero rest len e = absurd cc
state_after (suc n) rest len e =
    let s = state_then (judge_state rest) len (λ next used. pieces n next (8 + used) (drop used rest)) e in
    (s.0, s.1, s.2, n, s.3)

whole_told : (bytes : List ℕ) → IsWhole Second bytes → IsTold bytes
unfolding pieces
whole_told bytes e =
    elim (head_only true bytes (head_piece true bytes) refl) [
      | inl is ↦
          let on : pieces (length bytes) (stage.State true) 8 (drop 8 bytes) ≡ message.Whole (length bytes) =
          ap (after_piece (λ next used. pieces (length bytes) next (0 + used) (drop used bytes)) 0) (sym is.0) ∙ e in
          let s = state_after (length bytes) (drop 8 bytes) (length bytes) on in
          record { state = s.0; used = s.1; long = is.1; heads = is.2; read = s.2; steps = s.3; frames = s.4 }
      | inr other ↦ elim other [
        | inl more ↦ absurd (let never = ap (after_piece (λ next used. pieces (length bytes) next (0 + used) (drop used bytes)) 0)
            (sym more) ∙ e in cc)
        | inr bad ↦ absurd (let never = ap (after_piece (λ next used. pieces (length bytes) next (0 + used) (drop used bytes)) 0)
            (sym bad) ∙ e in cc)
      ]
    ]

pub second_long : (bytes : List ℕ) → IsWhole Second bytes → 8 ≤ length bytes
second_long bytes e = (whole_told bytes e).long

-- whatever is read after the head is that state, and the rest is frames
pub second_tells : (bytes : List ℕ) (c : ContextData) (used : ℕ) → IsBytes bytes → IsWhole Second bytes
    → judge_state (drop 8 bytes) ≡ Ok (c, used) → IsToldUpTo bytes c (8 + used)
second_tells bytes c used fits e read =
    let told = whole_told bytes e in
    let both : ◌≡◌ {A = Result (ContextData × ℕ) Unread} (Ok (c, used)) (Ok (told.state, told.used)) = sym read ∙ told.read in
    let same : ◌≡◌ {A = ContextData × ℕ} (c, used) (told.state, told.used) = cc in
    let rest_fits = IsBytes-drop 8 bytes fits in
    let is = state_takes (drop 8 bytes) c used rest_fits read in
    let size = is.size in
    let long = told.long in
    let total : length (drop 8 bytes) ≡ length (state_bytes c) + length (drop used (drop 8 bytes)) =
    ap length is.parts ∙ length-append (state_bytes c) (drop used (drop 8 bytes)) in
    let left : drop used (drop 8 bytes) ≡ drop (8 + used) bytes = drop-drop used 8 bytes in
    let within : 8 + used ≤ length bytes = omega (arith, size, total, long, length-drop 8 bytes) in
    let rest = drop used (drop 8 bytes) in
    let ends : length bytes ≡ (8 + used) + length rest =
    omega (arith, within, long, length-drop 8 bytes, length-drop used (drop 8 bytes)) in
    let at : told.used ≡ used = ap (λ (p : ContextData × ℕ). p.1) (sym same) in
    let from : pieces told.steps stage.Frames (8 + used) rest ≡ message.Whole (8 + used + length rest) =
    ap (λ (k : ℕ). pieces told.steps stage.Frames (8 + k) (drop k (drop 8 bytes))) (sym at)
    ∙ (told.frames ∙ ap (λ (k : ℕ). message.Whole k) ends) in
    let frames = frames_end told.steps (8 + used) rest (IsBytes-drop used (drop 8 bytes) rest_fits) from in
    record {
      within = within;
      is = is.is;
      parts =
          told.heads ∙ (ap (λ (t : List ℕ). head ++ t) (is.parts ∙ ap (λ (t : List ℕ). state_bytes c ++ t) left)
          ∙ sym (append_assoc head (state_bytes c) (drop (8 + used) bytes)));
      frames = (frames.0, subst (λ (t : List ℕ). IsThird t frames.0) left frames.1);
    }

-- and nothing but a state is read there
pub second_refuses : (bytes : List ℕ) (why : Unread) → IsWhole Second bytes → judge_state (drop 8 bytes) ≡ Err why → ⊥
second_refuses bytes why e read = let never = sym read ∙ (whole_told bytes e).read in cc

-- the parts of a second message
pub second_of : (bytes : List ℕ) (c : ContextData) (at : ℕ) (os : List OpData) → IsToldUpTo bytes c at → IsThird (drop at bytes) os
    → IsSecond bytes c os
second_of bytes c at os told third =
    record { is = told.is; formed = third.formed; parts = told.parts ∙ ap (λ (t : List ℕ). telling c ++ t) third.parts }

pub whole_second : (bytes : List ℕ) → IsBytes bytes → IsWhole Second bytes → (c : ContextData) × (os : List OpData) × IsSecond bytes c os
whole_second bytes fits e =
    let told = whole_told bytes e in
    let up = second_tells bytes told.state told.used fits e told.read in
    (told.state, up.frames.0, second_of bytes told.state (8 + told.used) up.frames.0 up up.frames.1)

-- where its operations aren't all taken in
pub unclosed : (s : State) (bytes : List ℕ) (t : State) (c : ContextData) (os : List OpData) (why : Peer) → IsSecond bytes c os
    → AreUntaken s os t why → IsUnclosed s bytes t why
unclosed s bytes t c os (peer.Bytes offset cause) read never = absurd never
unclosed s bytes t c os (peer.Op member verdict) read is = (c, os, read, is)
unclosed s bytes t c os peer.Memory read is = (c, os, read, is)

-- ---- what a call that went wrong leaves

-- where bytes aren't taken as a message, and where there is no memory for the state that they tell
pub memory_unclosed : (s : State) (bytes : List ℕ) → IsBytes bytes → IsWhole Second bytes → IsUnclosed s bytes s peer.Memory
memory_unclosed s bytes fits e =
    let w = whole_second bytes fits e in
    (w.0, w.1, w.2, none_on_the_way s w.1)

pub unread_unclosed : (s : State) (bytes : List ℕ) (why : Peer) → IsBytes bytes → IsUnread Second bytes why → IsUnclosed s bytes s why
unread_unclosed s bytes (peer.Bytes offset cause) fits spoils = (refl, spoils)
unread_unclosed s bytes (peer.Op member verdict) fits never = absurd never
unread_unclosed s bytes peer.Memory fits whole = memory_unclosed s bytes fits whole

pub unread_unfinished : (s : State) (bytes : List ℕ) (why : Peer) → IsBytes bytes → IsUnread Third bytes why → IsUnfinished s bytes s why
unread_unfinished s bytes (peer.Bytes offset cause) fits spoils = (refl, spoils)
unread_unfinished s bytes (peer.Op member verdict) fits never = absurd never
unread_unfinished s bytes peer.Memory fits whole = let w = whole_third bytes fits whole in (w.0, w.1, none_on_the_way s w.0)

pub unfinished : (s : State) (bytes : List ℕ) (t : State) (os : List OpData) (why : Peer) → IsThird bytes os → AreUntaken s os t why
    → IsUnfinished s bytes t why
unfinished s bytes t os (peer.Bytes offset cause) read never = absurd never
unfinished s bytes t os (peer.Op member verdict) read is = (os, read, is)
unfinished s bytes t os peer.Memory read is = (os, read, is)
