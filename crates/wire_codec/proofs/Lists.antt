-- Lists of elements, each of which says what may come next.
use Rattle.std.proofs.Common.{◌≡◌, ℕ, zero, suc, ◌+◌, ◌≤◌, List, [], ◌∷◌, ◌++◌, length, Ok, Err, refl, sym, ap, subst, ◌∙◌, append_assoc, arith, inl, inr}
use Rattle.std.specs.List.{flat_map}
use Rattle.std.proofs.lemmas.List.{length-append}
use Rattle.std.proofs.lemmas.List.Concat.{flat_map-cons}
use Rattle.wire_codec.specs.declared.fault.Fault.{Fault}
use Rattle.wire_codec.specs.Reading.{Follow, LeftData, left_at, Found, ◌>>=◌, many}
use Rattle.wire_codec.proofs.Steps.{IsBytes, ok_is, bind_ok, bind_err}
use Rattle.wire_codec.proofs.TwoWays.{Takes, Takes-then, Takes-ends, Reads}

module _ {S A : Type 0} (step : S → LeftData → Found A) (next : S → A → S) (spell : A → List ℕ) (Is : S → A → Type 0)
    (one : (s : S) → Reads (step s) spell (Is s)) where
  many_takes : (n : ℕ) (state : S) (l m : LeftData) (xs : List A) → IsBytes l.bytes → many step next n state l ≡ Ok (xs, m)
      → Takes l (flat_map spell xs) m × ((length xs ≡ n) × Follow Is next state xs)
  unfolding many
  many_takes zero state l m xs fits e =
      subst (λ (y : List A × LeftData). Takes l (flat_map spell y.0) y.1 × ((length y.0 ≡ 0) × Follow Is next state y.0))
      (ok_is ([], l) (xs, m) e)
      (record { parts = refl; place = omega arith; rest_fits = fits }, (refl, tt))
  many_takes (suc n) state l m xs fits e =
      let a = bind_ok (step state l) (λ first. many step next n (next state first.0) first.1 >>= λ others.
      Ok (first.0 ∷ others.0, others.1))
      (xs, m) e in
      let b = bind_ok (many step next n (next state a.0.0) a.0.1) (λ others. Ok (a.0.0 ∷ others.0, others.1)) (xs, m) a.2 in
      let first = (one state).takes l a.0.1 a.0.0 fits a.1 in
      let others = many_takes n (next state a.0.0) a.0.1 b.0.1 b.0.0 first.0.rest_fits b.1 in
      let both = Takes-then l a.0.1 b.0.1 (spell a.0.0) (flat_map spell b.0.0) first.0 others.0 in
      let made : List A × LeftData = (a.0.0 ∷ b.0.0, b.0.1) in
      subst (λ (y : List A × LeftData). Takes l (flat_map spell y.0) y.1 × ((length y.0 ≡ suc n) × Follow Is next state y.0))
      (ok_is made (xs, m) b.2)
      (rw flat_map-cons both, (ap suc others.1.0, (first.1, others.1.1)))

  many_again : (xs : List A) (state : S) (at : ℕ) (rest : List ℕ) → Follow Is next state xs
      → many step next (length xs) state (left_at at (flat_map spell xs ++ rest)) ≡ Ok (xs, left_at (at + length (flat_map spell xs)) rest)
  unfolding many
  many_again [] state at rest fits = let place : at ≡ at + 0 = omega arith in ap (λ (n : ℕ). Ok ([], left_at n rest)) place
  many_again (x ∷ xs) state at rest fits =
      let regrouped : flat_map spell (x ∷ xs) ++ rest ≡ spell x ++ (flat_map spell xs ++ rest) =
      ap (λ (t : List ℕ). t ++ rest) (flat_map-cons spell x xs) ∙ append_assoc (spell x) (flat_map spell xs) rest in
      let first = (one state).again x at (flat_map spell xs ++ rest) fits.0 in
      let others = many_again xs (next state x) (at + length (spell x)) rest fits.1 in
      let place : (at + length (spell x)) + length (flat_map spell xs) ≡ at + length (flat_map spell (x ∷ xs)) =
      omega (arith, ap length (flat_map-cons spell x xs), length-append (spell x) (flat_map spell xs)) in
      ap (λ (t : List ℕ). many step next (suc (length xs)) state (left_at at t)) regrouped
      ∙ rw (first, others) (ap (λ (n : ℕ). Ok (x ∷ xs, left_at n rest)) place)

  many_faults : (n : ℕ) (state : S) (l : LeftData) (f : Fault) → IsBytes l.bytes → many step next n state l ≡ Err f
      → f.offset ≤ l.at + length l.bytes
  unfolding many
  many_faults zero state l f fits e = absurd (let no = e in cc)
  many_faults (suc n) state l f fits e =
      elim (bind_err (step state l) (λ first. many step next n (next state first.0) first.1 >>= λ others. Ok (first.0 ∷ others.0, others.1))
      f e) [
        | inl here ↦ (one state).faults l f fits here
        | inr a ↦
            let first = (one state).takes l a.0.1 a.0.0 fits a.1 in
            elim (bind_err (many step next n (next state a.0.0) a.0.1) (λ others. Ok (a.0.0 ∷ others.0, others.1)) f a.2) [
              | inl later ↦ omega (
                arith,
                many_faults n (next state a.0.0) a.0.1 f first.0.rest_fits later,
                Takes-ends l a.0.1 (spell a.0.0) first.0,
              )
              | inr b ↦ absurd (let no = b.2 in cc)
            ]
      ]

  pub many_reads : (n : ℕ) (state : S) → Reads (many step next n state) (flat_map spell) (λ xs. (length xs ≡ n) × Follow Is next state xs)
  many_reads n state = record {
    takes = many_takes n state;
    again = λ xs at rest fits. ap (λ (k : ℕ). many step next k state (left_at at (flat_map spell xs ++ rest))) (sym fits.0)
        ∙ many_again xs state at rest fits.1;
    faults = many_faults n state;
  }
