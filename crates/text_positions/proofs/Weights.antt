-- What characters weigh that stand side by side, and in front of a place.
use Rattle.std.proofs.Common.{◌≡◌, ℕ, zero, suc, ◌+◌, ◌*◌, ◌<◌, ◌≤◌, Bool, true, false, cond, nat_lt, ◌==◌, if◌then◌else◌, List, [], ◌∷◌, ◌++◌, length, take, refl, sym, ap, ◌∙◌, arith}
use Rattle.std.specs.Prelude.{◌≢◌, Some, None, nat_le}
use Rattle.std.specs.List.{count_by}
use Rattle.std.proofs.lemmas.Bool.{cases_Bool, le-leb, lt-leb, leb-true, cond-true, cond-false}
use Rattle.std.proofs.lemmas.Option.{same_Some, none-some}
use Rattle.std.proofs.lemmas.List.{take_all}
use Rattle.std.proofs.lemmas.List.Sums.{sum_by-cons}
use Rattle.lane_rank.specs.Texts.{is_newline}
use Rattle.tombstone_text.specs.declared.measure.Measure.{Measure}
use Rattle.tombstone_text.specs.declared.measure.Measure.TheVariants.{Bytes, Units, Lines}
use Rattle.tombstone_text.specs.Measures.{weight, weight_of}
use Rattle.text_positions.specs.Offsets.{offset_at, HasNoPlace, IsFirstPlace}
use mathlib.Core.Logic.{◌⊎◌, inl, inr}

-- ---- one character

-- it weighs at most 4
pub weight-le : (m : Measure) (c : ℕ) → weight m c ≤ 4
weight-le Bytes c = by (nat_lt c 0x80) (nat_lt c 0x800) (nat_lt c 0x1_0000)
  where
    by : (p q r : Bool) → cond p 1 (cond q 2 (cond r 3 4)) ≤ 4
    by true q r = omega arith
    by false true r = omega arith
    by false false true = omega arith
    by false false false = omega arith
weight-le Units c = by (nat_lt c 0x1_0000)
  where
    by : (p : Bool) → (if p then 1 else 2) ≤ 4
    by true = omega arith
    by false = omega arith
weight-le Lines c = by (c == 10)
  where
    by : (p : Bool) → (if p then 1 else 0) ≤ 4
    by true = omega arith
    by false = omega arith

-- and something in bytes and in units
weight_some : (m : Measure) (c : ℕ) → m ≢ Lines → 1 ≤ weight m c
weight_some Bytes c n = by (nat_lt c 0x80) (nat_lt c 0x800) (nat_lt c 0x1_0000)
  where
    by : (p q r : Bool) → 1 ≤ cond p 1 (cond q 2 (cond r 3 4))
    by true q r = omega arith
    by false true r = omega arith
    by false false true = omega arith
    by false false false = omega arith
weight_some Units c n = by (nat_lt c 0x1_0000)
  where
    by : (p : Bool) → 1 ≤ (if p then 1 else 2)
    by true = omega arith
    by false = omega arith
weight_some Lines c n = absurd (n refl)

-- ---- several

pub weight_of-le : (m : Measure) (cs : List ℕ) → weight_of m cs ≤ 4 * length cs
weight_of-le m [] = omega arith
weight_of-le m (c ∷ cs) = omega (arith, weight-le m c, weight_of-le m cs)

pub weight-append : (m : Measure) (xs ys : List ℕ) → weight_of m (xs ++ ys) ≡ weight_of m xs + weight_of m ys
weight-append m [] ys = omega arith
weight-append m (x ∷ xs) ys = omega (arith, weight-append m xs ys)

-- line feeds are counted
pub weight_lines : (cs : List ℕ) → weight_of Lines cs ≡ count_by is_newline cs
weight_lines [] = refl
weight_lines (c ∷ cs) =
    ap (λ n. (if c == 10 then 1 else 0) + n) (weight_lines cs) ∙ sym (sum_by-cons (λ (x : ℕ). cond (is_newline x) 1 0) c cs)

-- those in front of a place weigh no less than those in front of an earlier one
pub weight_up : (m : Measure) (cs : List ℕ) (u v : ℕ) → u ≤ v → weight_of m (take u cs) ≤ weight_of m (take v cs)
weight_up m cs zero v le = omega arith
weight_up m [] (suc u) v le = omega arith
weight_up m (c ∷ cs) (suc u) zero le = absurd (omega (arith, le))
weight_up m (c ∷ cs) (suc u) (suc v) le = omega (arith, weight_up m cs u v (omega (arith, le)))

pub weight_part : (m : Measure) (cs : List ℕ) (v : ℕ) → weight_of m (take v cs) ≤ weight_of m cs
weight_part m cs zero = omega arith
weight_part m [] (suc v) = omega arith
weight_part m (c ∷ cs) (suc v) = omega (arith, weight_part m cs v)

-- and more in bytes and in units
weight_rises : (m : Measure) (cs : List ℕ) (u v : ℕ) → m ≢ Lines → u < v → v ≤ length cs
    → weight_of m (take u cs) < weight_of m (take v cs)
weight_rises m [] u v n lt le = absurd (omega (arith, lt, le))
weight_rises m (c ∷ cs) u zero n lt le = absurd (omega (arith, lt))
weight_rises m (c ∷ cs) zero (suc v) n lt le = omega (arith, weight_some m c n)
weight_rises m (c ∷ cs) (suc u) (suc v) n lt le = omega (arith, weight_rises m cs u v n (omega (arith, lt)) (omega (arith, le)))

-- ---- offsets

pub offset_is : (m : Measure) (cs : List ℕ) (v : ℕ) → v ≤ length cs → offset_at m cs v ≡ Some (weight_of m (take v cs))
offset_is m cs v le = cond-true (nat_le v (length cs)) _ _ (le-leb v (length cs) le)

pub offset_none : (m : Measure) (cs : List ℕ) (v : ℕ) → length cs < v → offset_at m cs v ≡ None
offset_none m cs v lt = cond-false (nat_le v (length cs)) _ _ (lt-leb v (length cs) lt)

pub offset_all : (m : Measure) (cs : List ℕ) (v : ℕ) → v ≡ length cs → offset_at m cs v ≡ Some (weight_of m cs)
offset_all m cs v e = offset_is m cs v (omega arith) ∙ ap (λ (l : List ℕ). Some (weight_of m l)) (take_all v cs (omega arith))

pub offset_back : (m : Measure) (cs : List ℕ) (v o : ℕ) → offset_at m cs v ≡ Some o → (v ≤ length cs) × (weight_of m (take v cs) ≡ o)
offset_back m cs v o e = by (cases_Bool (nat_le v (length cs)))
  where
    by : (nat_le v (length cs) ≡ true) ⊎ (nat_le v (length cs) ≡ false) → (v ≤ length cs) × (weight_of m (take v cs) ≡ o)
    by (inl in_it) = (
      leb-true v (length cs) in_it,
      same_Some _ _ (sym (cond-true (nat_le v (length cs)) (Some (weight_of m (take v cs))) None in_it) ∙ e),
    )
    by (inr past) = absurd (none-some o (sym (cond-false (nat_le v (length cs)) (Some (weight_of m (take v cs))) None past) ∙ e))

-- a place that has the offset where no earlier one has, by what weighs as much
pub first_from : (m : Measure) (cs : List ℕ) (o v : ℕ) → v ≤ length cs → weight_of m (take v cs) ≡ o
    → ((u : ℕ) → u < v → weight_of m (take u cs) ≡ o → ⊥) → IsFirstPlace m cs o v
first_from m cs o v le is none = record {
  has = offset_is m cs v le ∙ ap (λ n. Some n) is;
  first = λ u lt e. none u lt (offset_back m cs u o e).1;
}

pub none_from : (m : Measure) (cs : List ℕ) (o : ℕ) → ((v : ℕ) → v ≤ length cs → weight_of m (take v cs) ≡ o → ⊥) → HasNoPlace m cs o
none_from m cs o none v e = let back = offset_back m cs v o e in none v back.0 back.1

-- the front of the text
pub front_first : (m : Measure) (cs : List ℕ) (o : ℕ) → o ≡ 0 → IsFirstPlace m cs o 0
front_first m cs o e = first_from m cs o 0 (omega arith) (sym e) (λ u lt is. absurd (omega (arith, lt)))

-- no place is past the text
pub past_none : (m : Measure) (cs : List ℕ) (o : ℕ) → weight_of m cs < o → HasNoPlace m cs o
past_none m cs o lt = none_from m cs o (λ v le is. omega (arith, lt, is, weight_part m cs v))

-- in bytes and in units each place that has the offset is the first
pub only_place : (m : Measure) (cs : List ℕ) (v o : ℕ) → m ≢ Lines → offset_at m cs v ≡ Some o → IsFirstPlace m cs o v
only_place m cs v o n e =
    let back = offset_back m cs v o e in
    first_from m cs o v back.0 back.1 (λ u lt is. omega (arith, is, back.1, weight_rises m cs u v n lt back.0))
