-- Lists of counts: sites that rise with their counts.
use Rattle.std.proofs.Common.{◌≡◌, ℕ, ◌+◌, ◌-◌, ◌*◌, ◌<◌, ◌≤◌, ◌≢◌, set, Bool, true, false, List, [], ◌∷◌, ◌++◌, length, if◌then◌else◌, refl, sym, ap, subst, ◌∙◌, inl, inr, arith}
use Rattle.std.specs.Prelude.{◌==◌, nat_lt, nat_le}
use Rattle.std.proofs.lemmas.Bool.{cases_order, eq-eqb, ne_eqb, lt-ltb}
use Rattle.std.proofs.lemmas.Bool.Decides.{nat_tests}
use Rattle.context_vector.specs.Contexts.{count_in, sum_of_counts, put_count, AreCounts}
use Rattle.op_name.specs.declared.name.TheConstants.{SITES, NUMBERS}
use Rattle.op_name.proofs.CallerLemmas.{number_order}
use Rattle.context_vector.specs.Vectors.{without_site, lower_count, SitesBelow}
use Rattle.context_vector.proofs.Keyed.{value_at, put_at, take_out, AllAfter, IsRising, gap_value, gap_put, put_is_set, take_out_is_remove}
use Rattle.context_vector.specs.Code.Places.{IsPlace, IsGap}
use Rattle.std.specs.List.{insert, remove}

abbrev pub same_site : ℕ → ℕ → Bool
same_site a b = a == b

-- counts are pairs with keys that rise, read and written as such
pub count_is : (ps : List (ℕ × ℕ)) (s : ℕ) → count_in ps s ≡ value_at same_site nat_lt ps s
count_is [] s = refl
count_is (p ∷ ps) s = ap (λ v. if p.0 == s then p.1 else v) (count_is ps s)

pub put_count_is : (s k : ℕ) (ps : List (ℕ × ℕ)) → put_count s k ps ≡ put_at same_site nat_lt s k ps
put_count_is s k [] = refl
put_count_is s k (p ∷ ps) = grind (arith, nat_tests, put_count_is s k ps)

pub without_site_is : (s : ℕ) (ps : List (ℕ × ℕ)) → without_site s ps ≡ take_out same_site nat_lt s ps
without_site_is s [] = refl
without_site_is s (p ∷ ps) = ap (λ v. if p.0 == s then ps else p ∷ v) (without_site_is s ps)

pub counts_after : (s low : ℕ) (ps : List (ℕ × ℕ)) → s < low → AreCounts low ps → AllAfter same_site nat_lt s ps
counts_after s low [] less are = tt
counts_after s low (p ∷ ps) less are = (lt-ltb s p.0 (omega arith), counts_after s (p.0 + 1) ps (omega arith) are.4)

pub counts_rise : (low : ℕ) (ps : List (ℕ × ℕ)) → AreCounts low ps → IsRising same_site nat_lt ps
counts_rise low [] are = tt
counts_rise low (p ∷ ps) are = (are.2, counts_after p.0 (p.0 + 1) ps (omega arith) are.4, counts_rise (p.0 + 1) ps are.4)

-- a lower bound may be lowered
pub counts_from : (low from : ℕ) (ps : List (ℕ × ℕ)) → low ≤ from → AreCounts from ps → AreCounts low ps
counts_from low from [] le are = tt
counts_from low from (p ∷ ps) le are = (omega arith, are.1, are.2, are.3, are.4)

pub counts_put : (low s k : ℕ) (ps : List (ℕ × ℕ)) → low ≤ s → s < SITES → 1 ≤ k → k ≤ NUMBERS → AreCounts low ps
    → AreCounts low (put_count s k ps)
counts_put low s k [] from site least most are = (from, site, least, most, tt)
counts_put low s k (p ∷ ps) from site least most are =
    elim (cases_order p.0 s) [
      | inl one ↦ rw (eq-eqb p.0 s one) (from, site, least, most, subst (λ x. AreCounts (x + 1) ps) one are.4)
      | inr (inl less) ↦ rw (ne_eqb p.0 s (omega arith), le_is_false s p.0 less)
          (are.0, are.1, are.2, are.3, counts_put (p.0 + 1) s k ps (omega arith) site least most are.4)
      | inr (inr more) ↦ rw (ne_eqb p.0 s (omega arith), le_is_true s p.0 (omega arith))
          (from, site, least, most, (omega arith, are.1, are.2, are.3, are.4))
    ]
  where
    le_is_false : (a b : ℕ) → b < a → nat_le a b ≡ false
    le_is_false a b less = grind (arith, nat_tests)

    le_is_true : (a b : ℕ) → a ≤ b → nat_le a b ≡ true
    le_is_true a b le = grind (arith, nat_tests)

pub counts_without : (low s : ℕ) (ps : List (ℕ × ℕ)) → AreCounts low ps → AreCounts low (without_site s ps)
counts_without low s [] are = tt
counts_without low s (p ∷ ps) are =
    elim (p.0 == s) as (λ t. AreCounts low (if t then ps else p ∷ without_site s ps)) [
      | true ↦ counts_from low (p.0 + 1) ps (omega arith) are.4
      | false ↦ (are.0, are.1, are.2, are.3, counts_without (p.0 + 1) s ps are.4)
    ]

pub counts_lower : (s k : ℕ) (ps : List (ℕ × ℕ)) → s < SITES → 1 ≤ k → k ≤ NUMBERS → AreCounts 0 ps → AreCounts 0 (lower_count s k ps)
counts_lower s k ps site least most are =
    elim (cases_order k 1) [
      | inl one ↦ rw (eq-eqb k 1 one) (counts_without 0 s ps are)
      | inr (inl less) ↦ absurd (omega arith)
      | inr (inr more) ↦ rw (ne_eqb k 1 (omega arith)) (counts_put 0 s (k - 1) ps (omega arith) site (omega arith) (omega arith) are)
    ]

-- a pair after the last may be appended
pub counts_push : (low s k : ℕ) (ps : List (ℕ × ℕ)) → low ≤ s → s < SITES → 1 ≤ k → k ≤ NUMBERS → SitesBelow ps s → AreCounts low ps
    → AreCounts low (ps ++ (s, k) ∷ [])
counts_push low s k [] from site least most below are = (from, site, least, most, tt)
counts_push low s k (p ∷ ps) from site least most below are =
    (are.0, are.1, are.2, are.3, counts_push (p.0 + 1) s k ps (omega (arith, below.0)) site least most below.1 are.4)

pub count_at_most : (low : ℕ) (ps : List (ℕ × ℕ)) (s : ℕ) → AreCounts low ps → count_in ps s ≤ NUMBERS
count_at_most low [] s are = omega arith
count_at_most low (p ∷ ps) s are =
    elim (p.0 == s) as (λ t. (if t then p.1 else count_in ps s) ≤ NUMBERS) [ true ↦ are.3 | false ↦ count_at_most (p.0 + 1) ps s are.4 ]

-- a site with a count is in range
pub counted_below : (low : ℕ) (ps : List (ℕ × ℕ)) (s : ℕ) → AreCounts low ps → 1 ≤ count_in ps s → s < SITES
counted_below low [] s are least = absurd (omega arith)
counted_below low (p ∷ ps) s are least =
    elim (cases_order p.0 s) [
      | inl one ↦ omega (arith, are.1)
      | inr other ↦ counted_below (p.0 + 1) ps s are.4 (rw (ne_eqb p.0 s (omega arith)) at least)
    ]

-- sites rise below SITES, so there are at most so many, with so many originals
pub sum_at_most : (low : ℕ) (ps : List (ℕ × ℕ)) → low ≤ SITES → AreCounts low ps → sum_of_counts ps + NUMBERS * low ≤ SITES * NUMBERS
sum_at_most low [] le are = omega arith
sum_at_most low (p ∷ ps) le are = omega (arith, are.0, are.1, are.3, sum_at_most (p.0 + 1) ps (omega arith) are.4)

pub sites_at_most : (low : ℕ) (ps : List (ℕ × ℕ)) → low ≤ SITES → AreCounts low ps → length ps + low ≤ SITES
sites_at_most low [] le are = omega arith
sites_at_most low (p ∷ ps) le are = omega (arith, are.0, are.1, sites_at_most (p.0 + 1) ps (omega arith) are.4)

-- what a write at the place of a site, an insert at its gap and a removal make
pub count_in_gap : (ps : List (ℕ × ℕ)) (s i : ℕ) → IsGap nat_lt ps s i → count_in ps s ≡ 0
count_in_gap ps s i gap = count_is ps s ∙ gap_value same_site nat_lt number_order ps s i gap

pub put_in_gap : (ps : List (ℕ × ℕ)) (s k i : ℕ) → IsGap nat_lt ps s i → insert ps i (s, k) ≡ put_count s k ps
put_in_gap ps s k i gap = sym (put_count_is s k ps ∙ gap_put same_site nat_lt number_order ps s k i gap)

pub put_at_place : (ps : List (ℕ × ℕ)) (s k i : ℕ) → AreCounts 0 ps → IsPlace ps s i → set ps i (s, k) ≡ put_count s k ps
put_at_place ps s k i are place = sym (put_count_is s k ps ∙ put_is_set same_site nat_lt number_order ps (counts_rise 0 ps are) s k i place)

pub lower_at_place : (ps : List (ℕ × ℕ)) (s k i : ℕ) → AreCounts 0 ps → IsPlace ps s i → k ≢ 1 → set ps i (s, k - 1) ≡ lower_count s k ps
lower_at_place ps s k i are place more = put_at_place ps s (k - 1) i are place ∙ rw (ne_eqb k 1 more) refl

pub remove_at_place : (ps : List (ℕ × ℕ)) (s k i : ℕ) → AreCounts 0 ps → IsPlace ps s i → k ≡ 1 → remove ps i ≡ lower_count s k ps
remove_at_place ps s k i are place one =
    sym (rw (eq-eqb k 1 one) (without_site_is s ps ∙ take_out_is_remove same_site nat_lt number_order ps (counts_rise 0 ps are) s i place))
