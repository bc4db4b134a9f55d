-- Digits of base 16, put one after the other.
use Rattle.std.proofs.Common.{◌≡◌, ℕ, zero, suc, ◌<◌, ◌-◌, ◌/◌, ◌%◌, List, [], ◌∷◌, ◌++◌, ap, sym, ◌∙◌, arith, append_assoc}
use Rattle.std.specs.Prelude.{slice_index}
use Rattle.std.proofs.lemmas.List.{append-nil}
use Rattle.hex.specs.Hex.{upper_digits}
use Rattle.script_text.specs.Explained.{hex_digits}

pub hex_none : (count number : ℕ) (now : List ℕ) → count ≡ 0 → now ≡ now ++ hex_digits count number
unfolding hex_digits
hex_none zero number now none = sym (append-nil now)
hex_none (suc k) number now none = absurd (omega (arith, none))

pub hex_more : (count number : ℕ) (start was now : List ℕ) → 0 < count → was ≡ start ++ hex_digits (count - 1) (number / 16)
    → now ≡ was ++ slice_index upper_digits (number % 16) ∷ [] → now ≡ start ++ hex_digits count number
unfolding hex_digits
hex_more zero number start was now some up put = absurd (omega (arith, some))
hex_more (suc k) number start was now some up put =
    let d : List ℕ = slice_index upper_digits (number % 16) ∷ [] in
    let less : (suc k) - 1 ≡ k = omega arith in
    put ∙ ap (λ (t : List ℕ). t ++ d) (up ∙ ap (λ j. start ++ hex_digits j (number / 16)) less)
    ∙ append_assoc start (hex_digits k (number / 16)) d
