-- The front of a header, and a piece that goes on after it.
use Rattle.std.proofs.Common.{◌≡◌, ℕ, zero, suc, subst, ◌+◌, ◌-◌, ◌≤◌, List, [], ◌∷◌, ◌++◌, ◌⊎◌, inl, inr, refl, ap, sym, ◌∙◌, length, take, drop, append_assoc, append-nil, arith}
use Rattle.std.specs.Prelude.{min}
use Rattle.std.proofs.lemmas.List.{length-append, length-take-le, nil_from_length, take-append-drop, take-append-le, take_all, take_at, drop_at, append_cancel_left}
use Rattle.wire_codec.proofs.CallerLemmas.{IsBytes-drop}
use Rattle.session_log.specs.ReaderData.{AreBytes}

-- either nothing of the piece is left, or nothing of the header
ends_one : (h w front rest : List ℕ) (come : ℕ) → length h ≡ come + (length front + length w)
    → length front ≡ min (length h - come) (length front + length rest) → (rest ≡ []) ⊎ (w ≡ [])
ends_one h w front [] come long short = inl refl
ends_one h w front (x ∷ rest) come long short = inr (nil_from_length w (omega (arith, long, short)))

whole : (come : ℕ) (h w front : List ℕ) → come ≤ length h → drop come h ≡ front ++ w → h ≡ (take come h ++ front) ++ w
whole come h w front within is =
    sym (take-append-drop come h) ∙ ap (λ (t : List ℕ). take come h ++ t) is ∙ sym (append_assoc (take come h) front w)

-- what of the piece is part of the header goes on with it, and the rest comes after it
pub goes_on : (come : ℕ) (h piece front rest w : List ℕ) → come ≤ length h → piece ≡ front ++ rest → drop come h ≡ front ++ w
    → length front ≡ min (length h - come) (length piece)
    → take come h ++ piece ≡ take (come + length piece) h ++ rest
goes_on come h piece front rest w within parts is short =
    let a = take come h in
    let long_a : length a ≡ come = length-take-le come h within in
    let all : h ≡ (a ++ front) ++ w = whole come h w front within is in
    let long_piece : length piece ≡ length front + length rest = ap length parts ∙ length-append front rest in
    let long_front : length (a ++ front) ≡ come + length front = omega (arith, length-append a front, long_a) in
    let long_h : length h ≡ come + (length front + length w) = omega (arith, ap length all, length-append (a ++ front) w, long_front) in
    elim (ends_one h w front rest come long_h (short ∙ ap (λ (n : ℕ). min (length h - come) n) long_piece)) [
      | inl none ↦
          let same : piece ≡ front = parts ∙ ap (λ (t : List ℕ). front ++ t) none ∙ append-nil front in
          let here : take (come + length piece) h ≡ a ++ front =
          ap (take (come + length piece)) all
          ∙ take_at (a ++ front) w (come + length piece) (omega (arith, long_front, ap length same)) in
          ap (λ (t : List ℕ). a ++ t) same ∙ sym (append-nil (a ++ front)) ∙ ap (λ (t : List ℕ). (a ++ front) ++ t) (sym none)
          ∙ ap (λ (t : List ℕ). t ++ rest) (sym here)
      | inr done ↦
          let same : h ≡ a ++ front = all ∙ ap (λ (t : List ℕ). (a ++ front) ++ t) done ∙ append-nil (a ++ front) in
          let here : take (come + length piece) h ≡ a ++ front =
          take_all (come + length piece) h (omega (arith, ap length same, long_front, long_piece)) ∙ same in
          ap (λ (t : List ℕ). a ++ t) parts ∙ sym (append_assoc a front rest) ∙ ap (λ (t : List ℕ). t ++ rest) (sym here)
    ]

-- where the header stands first after all, the piece goes on with it
pub would_go_on : (come : ℕ) (h piece front rest : List ℕ) → piece ≡ front ++ rest → length front ≤ length (drop come h)
    → (more after : List ℕ) → (take come h ++ piece) ++ more ≡ h ++ after
    → take (length front) (drop come h) ≡ front
would_go_on come h piece front rest parts short more after e =
    let a = take come h in
    let w = drop come h in
    let both : piece ++ more ≡ w ++ after = append_cancel_left a (piece ++ more) (w ++ after)
    (sym (append_assoc a piece more) ∙ e ∙ ap (λ (t : List ℕ). t ++ after) (sym (take-append-drop come h)) ∙ append_assoc a w after) in
    let split : front ++ (rest ++ more) ≡ w ++ after =
    sym (append_assoc front rest more) ∙ ap (λ (t : List ℕ). t ++ more) (sym parts) ∙ both in
    sym (take-append-le (length front) w after short) ∙ ap (take (length front)) (sym split)
    ∙ take_at front (rest ++ more) (length front) refl

-- what was split is the two parts
pub parts_of : (k : ℕ) (piece front rest : List ℕ) → front ≡ take k piece → rest ≡ drop k piece → piece ≡ front ++ rest
parts_of k piece front rest is_front is_rest =
    sym (take-append-drop k piece) ∙ ap (λ (t : List ℕ). t ++ drop k piece) (sym is_front) ∙ ap (λ (t : List ℕ). front ++ t) (sym is_rest)

-- ---- bytes

pub bytes_append : (a b : List ℕ) → AreBytes a → AreBytes b → AreBytes (a ++ b)
bytes_append [] b all some i = some i
bytes_append (x ∷ a) b all some zero = all zero
bytes_append (x ∷ a) b all some (suc i) = bytes_append a b (λ j. all (suc j)) some i

pub bytes_after : (a b all : List ℕ) → all ≡ a ++ b → AreBytes all → AreBytes b
bytes_after a b all parts fits =
    subst AreBytes (ap (drop (length a)) parts ∙ drop_at a b (length a) refl) (IsBytes-drop (length a) all fits)
