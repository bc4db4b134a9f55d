-- A whole first message tells a state.
use Rattle.std.proofs.Common.{◌≡◌, ℕ, zero, suc, ◌+◌, ◌≤◌, ltb, eqb, Bool, true, false, cond, List, [], ◌++◌, length, drop, Result, Ok}
use Rattle.std.proofs.Common.{Err, refl, sym, ap, ◌∙◌, append-nil, arith, inl, inr, ◌⊎◌, ◌-◌}
use Rattle.std.specs.List.{starts_with}
use Rattle.std.proofs.lemmas.Bool.{cases_Bool, ltb-false}
use Rattle.std.proofs.lemmas.Bool.Decides.{Decides-eqb}
use Rattle.std.proofs.lemmas.List.{length-drop, nil_from_length}
use Rattle.std.proofs.lemmas.Slice.Eq.{starts_is}
use Rattle.context_vector.specs.Contexts.{ContextData}
use Rattle.wire_codec.specs.declared.fault.Unread.{Unread}
use Rattle.wire_codec.specs.declared.fault.Unread.TheVariants as unread
use Rattle.wire_codec.specs.States.{judge_state, state_bytes, state_scan_of}
use Rattle.wire_codec.proofs.CallerLemmas.{IsBytes, IsBytes-drop, state_takes}
use Rattle.peer_exchange.specs.declared.messages.Which.TheVariants.{First}
use Rattle.peer_exchange.specs.declared.messages.PeerCause.TheVariants as causes
use Rattle.peer_exchange.specs.declared.messages.Measure.{Measure}
use Rattle.peer_exchange.specs.declared.messages.Measure.TheVariants as message
use Rattle.peer_exchange.specs.declared.stages.Stage.{Stage}
use Rattle.peer_exchange.specs.declared.stages.Stage.TheVariants.{State}
use Rattle.peer_exchange.specs.declared.stages.Piece.{Piece}
use Rattle.peer_exchange.specs.declared.stages.Piece.TheVariants as part
use Rattle.peer_exchange.specs.Measuring.{head, head_piece, stated, after_piece, pieces}
use Rattle.peer_exchange.specs.Messages.{IsFirst}
use Rattle.peer_exchange.proofs.Staying.{by_false, by_true}
use Rattle.peer_exchange.specs.Refusals.{IsWhole}

-- a head is there, and a state after it that ends where the bytes do
record IsTold (bytes : List ℕ) : Type 0 where
  state : ContextData
  long : 8 ≤ length bytes
  heads : bytes ≡ head ++ drop 8 bytes
  read : judge_state (drop 8 bytes) ≡ Ok (state, length bytes - 8)

pub head_only : (frames : Bool) (bytes : List ℕ) (p : Piece) → head_piece frames bytes ≡ p
    → ((p ≡ part.Got (State frames) 8) × (8 ≤ length bytes) × (bytes ≡ head ++ drop 8 bytes))
    ⊎ ((p ≡ part.More 8) ⊎ (p ≡ part.Bad 0 causes.Head))
head_only frames bytes p e =
    elim (cases_Bool (ltb (length bytes) 8)) [
      | inl few ↦ inr (inl (sym e ∙ by_true (ltb (length bytes) 8) _ _ few))
      | inr ready ↦
          let is_head = starts_with (λ (x : ℕ) (y : ℕ). eqb x y) bytes head in
          let second : cond is_head (part.Got (State frames) 8) (part.Bad 0 causes.Head) ≡ p =
          sym (by_false (ltb (length bytes) 8) (part.More 8) (cond is_head (part.Got (State frames) 8) (part.Bad 0 causes.Head)) ready)
          ∙ e in
          elim (cases_Bool is_head) [
            | inl same ↦ inl (
              sym second ∙ by_true is_head _ _ same,
              ltb-false _ _ ready,
              (starts_is Decides-eqb bytes head true (sym same)).0 refl,
            )
            | inr other ↦ inr (inr (sym second ∙ by_false is_head _ _ other))
          ]
    ]

state_only : (j : Result (ContextData × ℕ) Unread) (len : ℕ) (f : Stage → ℕ → Measure)
    → after_piece f 8 (stated false (state_scan_of j)) ≡ message.Whole len
    → (c : ContextData) × (used : ℕ) × (j ≡ Ok (c, used)) × (8 + used ≡ len)
state_only (Ok x) len f e = let size : 8 + x.1 ≡ len = cc in (x.0, x.1, refl, size)
state_only (Err (unread.More n)) len f e = absurd cc
state_only (Err (unread.Bad why)) len f e = absurd cc

-- what a message says after its head
state_after : (n : ℕ) (rest : List ℕ) (len : ℕ) → pieces n (State false) 8 rest ≡ message.Whole len
    → (c : ContextData) × (used : ℕ) × (judge_state rest ≡ Ok (c, used)) × (8 + used ≡ len)
unfolding pieces
state_after zero rest len e = absurd cc
state_after (suc n) rest len e = state_only (judge_state rest) len _ e

whole_told : (bytes : List ℕ) → IsWhole First bytes → IsTold bytes
unfolding pieces
whole_told bytes e =
    elim (head_only false bytes (head_piece false bytes) refl) [
      | inl is ↦
          let on : pieces (length bytes) (State false) 8 (drop 8 bytes) ≡ message.Whole (length bytes) =
          ap (after_piece (λ next used. pieces (length bytes) next (0 + used) (drop used bytes)) 0) (sym is.0) ∙ e in
          let state = state_after (length bytes) (drop 8 bytes) (length bytes) on in
          let size : state.1 ≡ length bytes - 8 = omega (arith, state.3) in
          record { state = state.0; long = is.1; heads = is.2; read = state.2 ∙ ap (λ (k : ℕ). Ok (state.0, k)) size }
      | inr other ↦ elim other [
        | inl more ↦ absurd (let no = ap (after_piece (λ next used. pieces (length bytes) next (0 + used) (drop used bytes)) 0) (sym more)
            ∙ e in cc)
        | inr bad ↦ absurd (let no = ap (after_piece (λ next used. pieces (length bytes) next (0 + used) (drop used bytes)) 0) (sym bad)
            ∙ e in cc)
      ]
    ]

pub first_long : (bytes : List ℕ) → IsWhole First bytes → 8 ≤ length bytes
first_long bytes e = (whole_told bytes e).long

-- whatever is read there is that state
pub first_tells : (bytes : List ℕ) (c : ContextData) (used : ℕ) → IsBytes bytes → IsWhole First bytes
    → judge_state (drop 8 bytes) ≡ Ok (c, used) → IsFirst bytes c
first_tells bytes c used fits e read =
    let told = whole_told bytes e in
    let both : ◌≡◌ {A = Result (ContextData × ℕ) Unread} (Ok (c, used)) (Ok (told.state, length bytes - 8)) = sym read ∙ told.read in
    let same : ◌≡◌ {A = ContextData × ℕ} (c, used) (told.state, length bytes - 8) = cc in
    let size : used ≡ length bytes - 8 = ap (λ (p : ContextData × ℕ). p.1) same in
    let is = state_takes (drop 8 bytes) c used (IsBytes-drop 8 bytes fits) read in
    let rest : drop used (drop 8 bytes) ≡ [] =
    nil_from_length (drop used (drop 8 bytes)) (omega (arith, size, told.long, length-drop used (drop 8 bytes), length-drop 8 bytes)) in
    let spelled : drop 8 bytes ≡ state_bytes c = is.parts ∙ (ap (λ (t : List ℕ). state_bytes c ++ t) rest ∙ append-nil (state_bytes c)) in
    record { is = is.is; parts = told.heads ∙ ap (λ (t : List ℕ). head ++ t) spelled }

-- and nothing but a state is read there
pub first_refuses : (bytes : List ℕ) (why : Unread) → IsWhole First bytes → judge_state (drop 8 bytes) ≡ Err why → ⊥
first_refuses bytes why e read = let no = sym read ∙ (whole_told bytes e).read in cc
