-- Bytes that are appended piece by piece.
use Rattle.std.proofs.Common.{◌≡◌, List, [], ◌++◌, ℕ, length, take, drop, refl, sym, ap, ◌∙◌, append_assoc, append-nil, arith}
use Rattle.std.proofs.Math.Seq.{take-append_seam}
use Rattle.std.proofs.lemmas.List.{take-append-drop, take_all}
use Rattle.wire_codec.proofs.CallerLemmas.{front_of_front}

-- on the way from what was held to that with all behind it: what is there now, and what is left
pub record IsUnderWay {A : Type 0} (old all now left : List A) : Type 0 where
  pub whole : now ++ left ≡ old ++ all
  pub front : take (length old) now ≡ old

pub begun : {A : Type 0} (old all : List A) → IsUnderWay old all old all
begun old all = record { whole = refl; front = take_all (length old) old (omega arith) }

-- a piece was appended
pub more : {A : Type 0} (old all now left new piece rest : List A) → IsUnderWay old all now left → left ≡ piece ++ rest
    → new ≡ now ++ piece → IsUnderWay old all new rest
more {A} old all now left new piece rest way parts is =
    let n = length old in
    let split : now ≡ old ++ drop n now = sym (take-append-drop n now) ∙ ap (λ (x : List A). x ++ drop n now) way.front in
    record {
      whole =
          ap (λ (x : List A). x ++ rest) is ∙ append_assoc now piece rest ∙ ap (λ (x : List A). now ++ x) (sym parts) ∙ way.whole;
      front =
          ap (take n) (is ∙ ap (λ (x : List A). x ++ piece) split ∙ append_assoc old (drop n now) piece)
          ∙ take-append_seam old (drop n now ++ piece);
    }

-- nothing was appended
pub same : {A : Type 0} (old all now left new rest : List A) → IsUnderWay old all now left → left ≡ rest → new ≡ now
    → IsUnderWay old all new rest
same {A} old all now left new rest way parts is = more old all now left new [] rest way parts (is ∙ sym (append-nil now))

-- nothing is left
pub ended : {A : Type 0} (old all now left : List A) → IsUnderWay old all now left → left ≡ [] → now ≡ old ++ all
ended {A} old all now left way none = sym (append-nil now) ∙ ap (λ (x : List A). now ++ x) (sym none) ∙ way.whole

-- a piece was appended in part
pub broken : (old all now left new : List ℕ) → IsUnderWay old all now left → take (length now) new ≡ now → take (length old) new ≡ old
broken old all now left new way kept =
    front_of_front old now new (drop (length old) now)
    (sym (take-append-drop (length old) now) ∙ ap (λ (x : List ℕ). x ++ drop (length old) now) way.front) kept
