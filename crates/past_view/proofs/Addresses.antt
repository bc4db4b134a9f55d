-- Lines and columns of a list of characters.
use Rattle.std.proofs.Common.{◌≡◌, ℕ, zero, suc, ◌+◌, ◌-◌, ◌<◌, ◌≤◌, Bool, true, false, List, length, get_or, cond, refl, sym, ap, subst, ◌∙◌, arith}
use Rattle.std.specs.Prelude.{not, Option, Some, None, nat_le, ◌==◌, ◌&&◌}
use Rattle.std.specs.List.{position_or_len, range_with_len}
use Rattle.std.proofs.lemmas.Bool.{cases_lt, cases_Bool, le-leb, lt-leb, leb-true, eq-eqb, eqb-true, and_from, and_parts, false_from_ne_true, cond-true, cond-false, not_from_false, not_from_true}
use Rattle.std.proofs.lemmas.List.Sums.{suffix_len-take_yes, suffix_len-take_no, position_or_len_is, passes_at_first}
use Rattle.std.proofs.lemmas.List.FromFn.{length-range_with_len, get_or-range_with_len}
use Rattle.lane_rank.specs.Texts.{is_newline}
use Rattle.past_view.specs.Lines.{line_of, column_of, address_of, place_at}
use Rattle.past_view.proofs.Counts.{count_up, count_past}
use Rattle.std.proofs.lemmas.Option.{same_Some, none-some}
use mathlib.Core.Logic.{◌⊎◌, inl, inr, ⊎_elim}

-- the place v has the line and the column
pub record IsAddress (cs : List ℕ) (line column v : ℕ) : Type 0 where
  pub within : v ≤ length cs
  pub on_line : line_of cs v ≡ line
  pub in_column : column_of cs v ≡ column

-- the line begins after w characters
pub record IsLineFrom (cs : List ℕ) (line w : ℕ) : Type 0 where
  pub within : w ≤ length cs
  pub counted : line_of cs w ≡ line
  pub after : (k : ℕ) → k + 1 ≡ w → is_newline (get_or cs k 0) ≡ true

-- a place on the same line has its column so many further
pub same_line : (cs : List ℕ) (v d : ℕ) → v + d ≤ length cs → line_of cs (v + d) ≡ line_of cs v → column_of cs (v + d) ≡ column_of cs v + d
same_line cs v zero le e = let same : v + 0 ≡ v = omega arith in omega (arith, ap (column_of cs) same)
same_line cs v (suc d) le e =
    let low = count_up is_newline cs v (v + d) (omega arith) in
    let high = count_up is_newline cs (v + d) (v + suc d) (omega arith) in
    let before = same_line cs v d (omega arith) (omega (arith, low, high, e)) in
    let here : is_newline (get_or cs (v + d) 0) ≡ false =
    false_from_ne_true _ (λ feed. omega
    (arith, low, e, count_past is_newline cs (v + d) (v + suc d) (omega arith) feed (omega arith))) in
    let last : v + suc d - 1 ≡ v + d = omega arith in
    let step =
    suffix_len-take_yes (λ c. not (is_newline c)) cs (v + suc d) 0 (omega arith) le
    (ap (λ i. not (is_newline (get_or cs i 0))) last ∙ not_from_false _ here) in
    omega (arith, step, ap (column_of cs) last, before)

-- a line begins in column 0
pub front_column : {cs : List ℕ} {line w : ℕ} → IsLineFrom cs line w → column_of cs w ≡ 0
front_column {w = zero} from = refl
front_column {cs} {w = suc k} from =
    let last : suc k - 1 ≡ k = omega arith in
    suffix_len-take_no (λ c. not (is_newline c)) cs (suc k) 0 (omega arith) from.within
    (ap (λ i. not (is_newline (get_or cs i 0))) last ∙ not_from_true _ (from.after k (omega arith)))

-- no two places have the same line and column
pub one_address : {cs : List ℕ} {line column v w : ℕ} → IsAddress cs line column v → IsAddress cs line column w → v < w → ⊥
one_address {cs} {line} {column} {v} {w} a b lt =
    let at : v + (w - v) ≡ w = omega arith in
    let further = same_line cs v (w - v) (omega (arith, b.within)) (ap (line_of cs) at ∙ (b.on_line ∙ sym a.on_line)) in
    omega (arith, further, ap (column_of cs) at, a.in_column, b.in_column)

-- a place on a line is among its characters, and its column counts them from the front of the line
pub on_line : {cs : List ℕ} {line w : ℕ} (m v : ℕ) → IsLineFrom cs line w → (w + m < length cs → is_newline (get_or cs (w + m) 0) ≡ true)
    → v ≤ length cs → line_of cs v ≡ line
    → (w ≤ v) × (v ≤ w + m) × (column_of cs v ≡ v - w)
on_line {cs} {line} {w} m v from next le e = (front, end, column)
  where
    early : v < w → ⊥
    early lt =
        let last : w - 1 + 1 ≡ w = omega arith in
        let one = count_past is_newline cs (w - 1) w (omega (arith, from.within)) (from.after (w - 1) last) (omega arith) in
        omega (arith, one, count_up is_newline cs v (w - 1) (omega arith), from.counted, e)

    front : w ≤ v
    front = ⊎_elim (λ lt. absurd (early lt)) (λ le. le) (cases_lt v w)

    late : w + m < v → ⊥
    late lt =
        let one = count_past is_newline cs (w + m) v (omega (arith, le)) (next (omega (arith, le))) lt in
        omega (arith, one, count_up is_newline cs w (w + m) (omega arith), from.counted, e)

    end : v ≤ w + m
    end = ⊎_elim (λ lt. absurd (late lt)) (λ le. le) (cases_lt (w + m) v)

    column : column_of cs v ≡ v - w
    column =
        let at : w + (v - w) ≡ v = omega (arith, front) in
        let further = same_line cs w (v - w) (omega (arith, at, le)) (ap (line_of cs) at ∙ (e ∙ sym from.counted)) in
        omega (arith, further, ap (column_of cs) at, front_column from)

-- a place of a line, so many characters from its front
pub from_front : {cs : List ℕ} {line w : ℕ} (column : ℕ) → IsLineFrom cs line w → w + column ≤ length cs → line_of cs (w + column) ≡ line
    → IsAddress cs line column (w + column)
from_front {cs} {line} {w} column from le e =
    record {
      within = le;
      on_line = e;
      in_column = omega (arith, same_line cs w column le (e ∙ sym from.counted), front_column from);
    }

pub address_from : {cs : List ℕ} {line column v : ℕ} → IsAddress cs line column v → address_of cs v ≡ Some (line, column)
address_from {cs} {line} {column} {v} a =
    cond-true (nat_le v (length cs)) _ _ (le-leb v (length cs) a.within) ∙ (λ i. Some (a.on_line i, a.in_column i))

pub address_back : (cs : List ℕ) (v line column : ℕ) → address_of cs v ≡ Some (line, column) → IsAddress cs line column v
address_back cs v line column e = by (cases_Bool (nat_le v (length cs)))
  where
    by : (nat_le v (length cs) ≡ true) ⊎ (nat_le v (length cs) ≡ false) → IsAddress cs line column v
    by (inl in_it) =
        let same = same_Some _ _ (sym (cond-true (nat_le v (length cs)) (Some (line_of cs v, column_of cs v)) None in_it) ∙ e) in
        record { within = leb-true v (length cs) in_it; on_line = ap (λ p. p.0) same; in_column = ap (λ p. p.1) same }
    by (inr past) =
        absurd (none-some (line, column) (sym (cond-false (nat_le v (length cs)) (Some (line_of cs v, column_of cs v)) None past) ∙ e))

module _ (cs : List ℕ) (line column : ℕ) where
  abbrev has_it : ℕ → Bool
  has_it v = line_of cs v == line && column_of cs v == column

  has_from : (v : ℕ) → IsAddress cs line column v → has_it v ≡ true
  has_from v a = and_from _ _ (eq-eqb _ _ a.on_line) (eq-eqb _ _ a.in_column)

  has_back : (v : ℕ) → v ≤ length cs → has_it v ≡ true → IsAddress cs line column v
  has_back v le has =
      let both = and_parts (line_of cs v == line) (column_of cs v == column) has in
      record { within = le; on_line = eqb-true _ _ both.0; in_column = eqb-true _ _ both.1 }

  abbrev places : List ℕ
  places = range_with_len 0 (length cs + 1)

  abbrev found_or_not : ℕ → Option ℕ
  found_or_not v = cond (nat_le v (length cs)) (Some v) None

  at_place : (k : ℕ) → k < length cs + 1 → get_or places k 0 ≡ k
  at_place k lt = omega (arith, get_or-range_with_len 0 (length cs + 1) k 0 lt)

  place_first : (v : ℕ) → v ≤ length cs + 1 → ((k : ℕ) → k < v → has_it k ≡ false) → (v < length cs + 1 → has_it v ≡ true)
      → place_at cs line column ≡ found_or_not v
  place_first v le none has =
      let long : length places ≡ length cs + 1 = length-range_with_len 0 (length cs + 1) in
      ap found_or_not (position_or_len_is has_it places v 0 (omega (arith, long))
      (λ k lt. ap has_it (at_place k (omega arith)) ∙ none k lt)
      (λ lt. let short : v < length cs + 1 = omega (arith, long) in ap has_it (at_place v short) ∙ has short))

  pub place_found : (v : ℕ) → IsAddress cs line column v → place_at cs line column ≡ Some v
  place_found v a =
      let le = a.within in
      place_first v (omega arith)
      (λ k lt. false_from_ne_true _ (λ has. one_address (has_back k (omega arith) has) a lt))
      (λ _. has_from v a)
      ∙ cond-true (nat_le v (length cs)) (Some v) None (le-leb v (length cs) le)

  pub place_missing : ((v : ℕ) → IsAddress cs line column v → ⊥) → place_at cs line column ≡ None
  place_missing none =
      place_first (length cs + 1) (omega arith)
      (λ k lt. false_from_ne_true _ (λ has. none k (has_back k (omega arith) has)))
      (λ lt. absurd (omega arith))
      ∙ cond-false (nat_le (length cs + 1) (length cs)) (Some (length cs + 1)) None (lt-leb (length cs + 1) (length cs) (omega arith))

  pub place_back : (v : ℕ) → place_at cs line column ≡ Some v → IsAddress cs line column v
  place_back v e = by (cases_Bool (nat_le at (length cs)))
    where
      at : ℕ
      at = position_or_len has_it places

      by : (nat_le at (length cs) ≡ true) ⊎ (nat_le at (length cs) ≡ false) → IsAddress cs line column v
      by (inl in_it) =
          let le : at ≤ length cs = leb-true at (length cs) in_it in
          let long : length places ≡ length cs + 1 = length-range_with_len 0 (length cs + 1) in
          let passes = passes_at_first has_it places 0 (omega (arith, long)) in
          let here : has_it at ≡ true = ap has_it (sym (at_place at (omega arith))) ∙ passes in
          subst (IsAddress cs line column) (same_Some at v (sym (cond-true (nat_le at (length cs)) (Some at) None in_it) ∙ e))
          (has_back at le here)
      by (inr past) = absurd (none-some v (sym (cond-false (nat_le at (length cs)) (Some at) None past) ∙ e))
