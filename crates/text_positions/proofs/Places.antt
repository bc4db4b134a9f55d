-- The place of an offset in a text of three parts, where it lies within the middle one.
use Rattle.std.proofs.Common.{◌≡◌, ℕ, ◌+◌, ◌-◌, ◌<◌, ◌≤◌, List, ◌++◌, length, take, ap, ◌∙◌, arith, length-append}
use Rattle.std.specs.Prelude.{Some}
use Rattle.std.proofs.lemmas.Bool.{cases_lt}
use Rattle.std.proofs.lemmas.List.{take-append-le, take_all}
use Rattle.std.proofs.Math.Seq.{take-append-add}
use Rattle.tombstone_text.specs.declared.measure.Measure.{Measure}
use Rattle.tombstone_text.specs.Measures.{weight_of}
use Rattle.text_positions.specs.Offsets.{HasNoPlace, IsFirstPlace}
use Rattle.text_positions.proofs.Weights.{first_from, none_from, offset_back, offset_is, weight-append, weight_up}
use mathlib.Core.Logic.{inl, inr}

module _ (m : Measure) (front middle behind : List ℕ) where
  abbrev pub whole : List ℕ
  whole = front ++ (middle ++ behind)

  pub length_whole : length whole ≡ length front + (length middle + length behind)
  length_whole = omega (arith, length-append front (middle ++ behind), length-append middle behind)

  -- the characters in front of a place of the middle one
  pub taken_within : (k : ℕ) → k ≤ length middle → take (length front + k) whole ≡ front ++ take k middle
  taken_within k le =
      take-append-add front (middle ++ behind) k ∙ ap (λ (l : List ℕ). front ++ l) (take-append-le k middle behind le)

  pub weight_within : (k : ℕ) → k ≤ length middle
      → weight_of m (take (length front + k) whole) ≡ weight_of m front + weight_of m (take k middle)
  weight_within k le = ap (weight_of m) (taken_within k le) ∙ weight-append m front (take k middle)

  weight_end : weight_of m (take (length front + length middle) whole) ≡ weight_of m front + weight_of m middle
  weight_end =
      weight_within (length middle) (omega arith)
      ∙ ap (λ (l : List ℕ). weight_of m front + weight_of m l) (take_all (length middle) middle (omega arith))

  module _ (offset rest : ℕ) (is : offset ≡ weight_of m front + rest) (some : 0 < rest) where
    -- no place in the first part has the offset
    early : (u : ℕ) → u < length front → weight_of m (take u whole) ≡ offset → ⊥
    early u lt e =
        let none = weight_within 0 (omega arith) in
        let up = weight_up m whole u (length front + 0) (omega (arith, lt)) in
        omega (arith, e, is, some, none, up)

    -- what is left of the offset behind the first part
    left_over : (u : ℕ) → length front ≤ u → u - length front ≤ length middle → weight_of m (take u whole) ≡ offset
        → weight_of m (take (u - length front) middle) ≡ rest
    left_over u le short e =
        let at : length front + (u - length front) ≡ u = omega (arith, le) in
        omega (arith, e, is, weight_within (u - length front) short, ap (λ n. weight_of m (take n whole)) at)

    pub found_within : (k : ℕ) → IsFirstPlace m middle rest k → IsFirstPlace m whole offset (length front + k)
    found_within k first =
        let has = offset_back m middle k rest first.has in
        first_from m whole offset (length front + k) (omega (arith, has.0, length_whole))
        (omega (arith, weight_within k has.0, has.1, is))
        (λ u lt e. elim (cases_lt u (length front)) [
          | inl low ↦ early u low e
          | inr high ↦
              let j = u - length front in
              let short : j ≤ length middle = omega (arith, lt, high, has.0) in
              first.first j (omega (arith, lt, high)) (offset_is m middle j short ∙ ap (λ n. Some n) (left_over u high short e))
        ])

    pub missing_within : rest ≤ weight_of m middle → HasNoPlace m middle rest → HasNoPlace m whole offset
    missing_within le none =
        none_from m whole offset
        (λ u within e. elim (cases_lt u (length front)) [
          | inl low ↦ early u low e
          | inr high ↦ elim (cases_lt (length middle) (u - length front)) [
            | inl past ↦
                let up = weight_up m whole (length front + length middle) u (omega (arith, past, high)) in
                let all : weight_of m (take (length middle) middle) ≡ rest =
                ap (λ (l : List ℕ). weight_of m l) (take_all (length middle) middle (omega arith))
                ∙ omega (arith, up, e, is, weight_end, le) in
                none (length middle) (offset_is m middle (length middle) (omega arith) ∙ ap (λ n. Some n) all)
            | inr short ↦
                none (u - length front)
                (offset_is m middle (u - length front) short ∙ ap (λ n. Some n) (left_over u high short e))
          ]
        ])
