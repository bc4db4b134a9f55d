-- Where places go: the order of two inserts is kept by the inclusion of a third.
use Rattle.std.proofs.Common.{◌≡◌, ◌≢◌, ℕ, ◌+◌, ◌<◌, ◌≤◌, Bool, true, false, nat_lt, if◌then◌else◌, refl, sym, ap, ◌∙◌, arith}
use Rattle.std.proofs.lemmas.Bool.Decides.{nat_tests}
use Rattle.ttf_form.specs.Places.{goes_before, over_place, cover_place, back_place}

-- the place n of a form has become m, after so many cells came in at q, on the left of the form where they tie
pub record IsMoved (n q extent : ℕ) (left : Bool) (m : ℕ) : Type 0 where
  pub less : q < n → m ≡ n + extent
  pub more : n < q → m ≡ n
  pub tie_left : n ≡ q → left ≡ true → m ≡ n + extent
  pub tie_right : n ≡ q → left ≡ false → m ≡ n

pub over_stays : (p s q r n : ℕ) → goes_before p s q r ≡ true → over_place p s q r n ≡ p
unfolding over_place
over_stays p s q r n h = ap (λ (t : Bool). if t then p else p + n) h

pub over_rises : (p s q r n : ℕ) → goes_before p s q r ≡ false → over_place p s q r n ≡ p + n
unfolding over_place
over_rises p s q r n h = ap (λ (t : Bool). if t then p else p + n) h

pub cover_stays : (p q n : ℕ) → nat_lt p q ≡ true → cover_place p q n ≡ p
unfolding cover_place
cover_stays p q n h = ap (λ (t : Bool). if t then p else p + n) h

pub cover_rises : (p q n : ℕ) → nat_lt p q ≡ false → cover_place p q n ≡ p + n
unfolding cover_place
cover_rises p q n h = ap (λ (t : Bool). if t then p else p + n) h

pub before_within : (p s q r : ℕ) → goes_before p s q r ≡ true → p ≤ q
before_within p s q r h = grind (arith, nat_tests)

pub behind_within : (p s q r : ℕ) → goes_before p s q r ≡ false → q ≤ p
behind_within p s q r h = grind (arith, nat_tests)

-- of two inserts of different sites one goes before the other
pub before_other : (p s q r : ℕ) → s ≢ r → goes_before p s q r ≡ false → goes_before q r p s ≡ true
before_other p s q r ne h = grind (arith, nat_tests)

pub before_asym : (p s q r : ℕ) → goes_before p s q r ≡ true → goes_before q r p s ≡ false
before_asym p s q r h = grind (arith, nat_tests)

-- the row of an insert as facts on places
pub over_less : (p s q r n : ℕ) → p < q → over_place p s q r n ≡ p
unfolding over_place
over_less p s q r n h = grind (arith, nat_tests)

pub over_more : (p s q r n : ℕ) → q < p → over_place p s q r n ≡ p + n
unfolding over_place
over_more p s q r n h = grind (arith, nat_tests)

pub over_tie_front : (p s q r n : ℕ) → p ≡ q → nat_lt s r ≡ true → over_place p s q r n ≡ p
unfolding over_place
over_tie_front p s q r n e h = grind (arith, nat_tests)

pub over_tie_behind : (p s q r n : ℕ) → p ≡ q → nat_lt s r ≡ false → over_place p s q r n ≡ p + n
unfolding over_place
over_tie_behind p s q r n e h = grind (arith, nat_tests)

pub cover_less : (p q n : ℕ) → p < q → cover_place p q n ≡ p
unfolding cover_place
cover_less p q n h = grind (arith, nat_tests)

pub cover_more : (p q n : ℕ) → q ≤ p → cover_place p q n ≡ p + n
unfolding cover_place
cover_more p q n h = grind (arith, nat_tests)

pub over_bound : (p s q r n m : ℕ) → p ≤ m → over_place p s q r n ≤ m + n
unfolding over_place
over_bound p s q r n m h = grind (arith, nat_tests)

pub cover_bound : (p q n m : ℕ) → p < m → cover_place p q n < m + n
unfolding cover_place
cover_bound p q n m h = grind (arith, nat_tests)

-- the inclusion of a third insert keeps the order of two
pub before_kept : (p s q r o t n : ℕ) → goes_before (over_place p s o t n) s (over_place q r o t n) r ≡ goes_before p s q r
unfolding over_place
before_kept p s q r o t n = grind (arith, nat_tests)

-- and that of a cover and an insert
pub less_kept : (p q r o t n : ℕ) → nat_lt (cover_place p o n) (over_place q r o t n) ≡ nat_lt p q
unfolding over_place cover_place
less_kept p q r o t n = grind (arith, nat_tests)

-- the row of an insert as it moves a place
pub over_moved : (p s q r n : ℕ) → s ≢ r → IsMoved p q n (nat_lt r s) (over_place p s q r n)
over_moved p s q r n ne =
    record {
      less = λ h. over_more p s q r n h;
      more = λ h. over_less p s q r n h;
      tie_left = λ e h. over_tie_behind p s q r n e (greater_behind s r h);
      tie_right = λ e h. over_tie_front p s q r n e (other_front s r ne h);
    }
  where
    greater_behind : (s r : ℕ) → nat_lt r s ≡ true → nat_lt s r ≡ false
    greater_behind s r h = grind (arith, nat_tests)

    other_front : (s r : ℕ) → s ≢ r → nat_lt r s ≡ false → nat_lt s r ≡ true
    other_front s r ne h = grind (arith, nat_tests)

pub cover_place_moved : (p q n : ℕ) → IsMoved p q n true (cover_place p q n)
cover_place_moved p q n =
    record {
      less = λ h. cover_more p q n (omega arith);
      more = λ h. cover_less p q n h;
      tie_left = λ e h. cover_more p q n (omega arith);
      tie_right = λ e h. cc;
    }

rises : (b c : Bool) (p n m : ℕ)
    → (if b then (if c then p else p + n) else (if c then p else p + n) + m)
    ≡ (if c then (if b then p else p + m) else (if b then p else p + m) + n)
rises true true p n m = refl
rises true false p n m = refl
rises false true p n m = refl
rises false false p n m = omega arith

-- an insert brought over two others, in either order
pub over_two : (p s q r n u t m : ℕ)
    → over_place (over_place p s q r n) s (over_place u t q r n) t m ≡ over_place (over_place p s u t m) s (over_place q r u t m) r n
unfolding over_place
over_two p s q r n u t m =
    ap (λ (b : Bool). if b then over_place p s q r n else over_place p s q r n + m) (before_kept p s u t q r n)
    ∙ rises (goes_before p s u t) (goes_before p s q r) p n m
    ∙ sym (ap (λ (b : Bool). if b then over_place p s u t m else over_place p s u t m + n) (before_kept p s q r u t m))

-- a cover brought over two inserts
pub cover_two : (p q r n u t m : ℕ)
    → cover_place (cover_place p q n) (over_place u t q r n) m ≡ cover_place (cover_place p u m) (over_place q r u t m) n
unfolding cover_place
cover_two p q r n u t m =
    ap (λ (b : Bool). if b then cover_place p q n else cover_place p q n + m) (less_kept p u t q r n)
    ∙ rises (nat_lt p u) (nat_lt p q) p n m
    ∙ sym (ap (λ (b : Bool). if b then cover_place p u m else cover_place p u m + n) (less_kept p q r u t m))

-- a place that moved is taken back to where it was
pub over_back : (p s q r n : ℕ) → back_place (over_place p s q r n) q n ≡ p
unfolding back_place over_place
over_back p s q r n = grind (arith, nat_tests)

pub cover_place_back : (p q n : ℕ) → back_place (cover_place p q n) q n ≡ p
unfolding back_place cover_place
cover_place_back p q n = grind (arith, nat_tests)

-- the first of the m cells that an insert at p of the site s adds is where that insert goes, once n cells came in at q by
-- another site
pub cell_follows : (p s q r n m : ℕ) → s ≢ r → 1 ≤ m → cover_place p (over_place q r p s m) n ≡ over_place p s q r n
unfolding over_place cover_place
cell_follows p s q r n m ne some = grind (arith, nat_tests)
