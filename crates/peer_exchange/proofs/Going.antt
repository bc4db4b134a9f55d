-- What a message says doesn't depend on where its parts were judged.
use Rattle.std.proofs.Common.{◌≡◌, ℕ, suc, zero, ◌+◌, ◌<◌, ◌≤◌, List, [], ◌++◌, length, drop, refl, sym, ap, ◌∙◌, arith}
use Rattle.std.proofs.lemmas.List.{length-drop, drop-append-le, drop-drop, append-nil}
use Rattle.wire_codec.proofs.CallerLemmas.{IsBytes, IsBytes-drop}
use Rattle.peer_exchange.specs.declared.messages.Which.{Which}
use Rattle.peer_exchange.specs.declared.stages.Place.{Place}
use Rattle.peer_exchange.specs.declared.stages.Stage.{Stage}
use Rattle.peer_exchange.specs.declared.stages.Piece.{Piece}
use Rattle.peer_exchange.specs.declared.stages.Piece.TheVariants as part
use Rattle.peer_exchange.specs.declared.messages.Measure.{Measure}
use Rattle.peer_exchange.specs.Measuring.{piece_of, after_piece, pieces, measured, measure_of}
use Rattle.peer_exchange.specs.Code.Places.{GoesOn, Stands}
use Rattle.peer_exchange.proofs.Staying.{is_there}

-- two ways to follow that agree after a part that is there
follow_alike : (f g : Stage → ℕ → Measure) (at : ℕ) (p : Piece)
    → ((next : Stage) (used : ℕ) → p ≡ part.Got next used → f next used ≡ g next used) → after_piece f at p ≡ after_piece g at p
follow_alike f g at (part.Got next used) same = same next used refl
follow_alike f g at (part.Whole used) same = refl
follow_alike f g at (part.More n) same = refl
follow_alike f g at (part.Bad offset cause) same = refl

-- more steps than bytes are alike
pub enough : (n m : ℕ) (s : Stage) (at : ℕ) (bytes : List ℕ) → IsBytes bytes → length bytes < n → length bytes < m
    → pieces n s at bytes ≡ pieces m s at bytes
unfolding pieces
enough zero m s at bytes fits few many = absurd (omega (arith, few))
enough (suc n) zero s at bytes fits few many = absurd (omega (arith, many))
enough (suc n) (suc m) s at bytes fits few many =
    follow_alike _ _ at (piece_of s bytes) (λ next used e.
    let there = is_there s bytes next used fits e in
    let some = there.some in
    let within = there.within in
    enough n m next (at + used) (drop used bytes) (IsBytes-drop used bytes fits)
    (omega (arith, few, some, within, length-drop used bytes)) (omega (arith, many, some, within, length-drop used bytes)))

-- after a part that is there the message says what follows says
pub step : (s : Stage) (at : ℕ) (bytes : List ℕ) (next : Stage) (used : ℕ) → IsBytes bytes → piece_of s bytes ≡ part.Got next used
    → measured s at bytes ≡ measured next (at + used) (drop used bytes)
unfolding pieces
step s at bytes next used fits e =
    let there = is_there s bytes next used fits e in
    let some = there.some in
    let within = there.within in
    ap (after_piece (λ next' used'. pieces (length bytes) next' (at + used') (drop used' bytes)) at) e
    ∙ enough (length bytes) (suc (length (drop used bytes))) next (at + used) (drop used bytes) (IsBytes-drop used bytes fits)
    (omega (arith, some, within, length-drop used bytes)) (omega arith)

pub stop : (s : Stage) (at : ℕ) (bytes : List ℕ) (p : Piece) → piece_of s bytes ≡ p
    → measured s at bytes ≡ after_piece (λ next used. pieces (length bytes) next (at + used) (drop used bytes)) at p
unfolding pieces
stop s at bytes p e = ap (after_piece (λ next used. pieces (length bytes) next (at + used) (drop used bytes)) at) e

-- a place may go on after a part that is there
pub one_on : (bytes : List ℕ) (from to : Place) (next : Stage) (used : ℕ) → IsBytes bytes → from.at ≤ length bytes
    → piece_of from.stage (drop from.at bytes) ≡ part.Got next used → to.stage ≡ next → to.at ≡ from.at + used → GoesOn bytes from to
one_on bytes from to next used fits inside e stage at =
    let rest = drop from.at bytes in
    let there = is_there from.stage rest next used (IsBytes-drop from.at bytes fits) e in
    let within = there.within in
    record {
      within = omega (arith, at, within, inside, length-drop from.at bytes);
      says = λ tail all_fit.
          let whole = drop from.at (bytes ++ tail) in
          let split : whole ≡ rest ++ tail = drop-append-le from.at bytes tail inside in
          let got : piece_of from.stage whole ≡ part.Got next used = ap (piece_of from.stage) split ∙ there.stays tail in
          let on = step from.stage from.at whole next used (IsBytes-drop from.at (bytes ++ tail) all_fit) got in
          let further : drop used whole ≡ drop to.at (bytes ++ tail) =
          drop-drop used from.at (bytes ++ tail) ∙ ap (λ (n : ℕ). drop n (bytes ++ tail)) (sym at) in
          on ∙ (λ i. measured (sym stage i) (sym at i) (further i));
    }

-- the message says what is said from the place where it stands
pub stands_says : (which : Which) (bytes : List ℕ) (place : Place) → IsBytes bytes → Stands which bytes place
    → measure_of which bytes ≡ measured place.stage place.at (drop place.at bytes)
stands_says which bytes place fits stands =
    let none = append-nil bytes in
    let all : IsBytes (bytes ++ []) = λ i. rw none (fits i) in
    let says = stands.says [] all in
    rw none at says

pub stands_on : (which : Which) (bytes : List ℕ) (a b : Place) → Stands which bytes a → GoesOn bytes a b → Stands which bytes b
stands_on which bytes a b stands on = record { within = on.within; says = λ tail fits. stands.says tail fits ∙ on.says tail fits }
