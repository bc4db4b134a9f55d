-- Lines and columns by offsets in line feeds: a line begins at the first place that has as many line feeds in front of it.
use Rattle.std.proofs.Common.{◌≡◌, ℕ, ◌+◌, ◌-◌, ◌<◌, ◌≤◌, Bool, true, false, List, length, take, get_or, sym, ap, subst, ◌∙◌, arith}
use Rattle.std.specs.Prelude.{◌≢◌, Option, Some, None, nat_le}
use Rattle.std.proofs.lemmas.Bool.{cases_Bool, cases_lt, cond-true, cond-false}
use Rattle.std.proofs.lemmas.Option.{none-some}
use Rattle.std.proofs.lemmas.List.Sums.{count_by-le-length, count_by_more_no}
use Rattle.lane_rank.specs.Texts.{is_newline}
use Rattle.tombstone_text.specs.declared.measure.Measure.TheVariants.{Lines}
use Rattle.tombstone_text.specs.Measures.{weight_of}
use Rattle.past_view.specs.Lines.{address_of, column_of, line_of, place_at}
use Rattle.past_view.proofs.CallerLemmas.{IsAddress, IsLineFrom, address_from, from_front, place_found, place_missing}
use Rattle.text_positions.specs.Offsets.{HasNoPlace, IsFirstPlace, offset_at}
use Rattle.text_positions.proofs.Weights.{offset_back, offset_is, weight_lines, weight_part}
use mathlib.Core.Logic.{◌⊎◌, inl, inr}

-- the line feeds in front of a place
line_there : (cs : List ℕ) (v line : ℕ) → offset_at Lines cs v ≡ Some line → line_of cs v ≡ line
line_there cs v line e = sym (weight_lines (take v cs)) ∙ (offset_back Lines cs v line e).1

offset_there : (cs : List ℕ) (v line : ℕ) → v ≤ length cs → line_of cs v ≡ line → offset_at Lines cs v ≡ Some line
offset_there cs v line le e = offset_is Lines cs v le ∙ ap (λ n. Some n) (weight_lines (take v cs) ∙ e)

-- there are no more of them than characters
pub lines_few : (cs : List ℕ) (v line : ℕ) → offset_at Lines cs v ≡ Some line → line ≤ length cs
lines_few cs v line e = omega (
  arith,
  (offset_back Lines cs v line e).1,
  weight_part Lines cs v,
  weight_lines cs,
  count_by-le-length is_newline cs,
)

-- no place with an offset is in front of the first one
pub first_le : (cs : List ℕ) (v w line : ℕ) → IsFirstPlace Lines cs line w → offset_at Lines cs v ≡ Some line → w ≤ v
first_le cs v w line first has = elim (cases_lt v w) [ inl lt ↦ absurd (first.first v lt has) | inr le ↦ le ]

-- there a line begins
line_from : (cs : List ℕ) (line w : ℕ) → IsFirstPlace Lines cs line w → IsLineFrom cs line w
line_from cs line w first = record {
  within = (offset_back Lines cs w line first.has).0;
  counted = line_there cs w line first.has;
  after = λ k e. by k e (cases_Bool (is_newline (get_or cs k 0)));
}
  where
    by : (k : ℕ) → k + 1 ≡ w → (is_newline (get_or cs k 0) ≡ true) ⊎ (is_newline (get_or cs k 0) ≡ false)
        → is_newline (get_or cs k 0) ≡ true
    by k e (inl feed) = feed
    by k e (inr other) =
        let within = (offset_back Lines cs w line first.has).0 in
        let same = count_by_more_no is_newline cs k 0 (omega (arith, e, within)) other in
        let on : line_of cs k ≡ line = sym same ∙ ap (λ n. line_of cs n) e ∙ line_there cs w line first.has in
        absurd (first.first k (omega (arith, e)) (offset_there cs k line (omega (arith, e, within)) on))

-- and a place on it has its column from there
pub address_there : (cs : List ℕ) (line w v : ℕ) → IsFirstPlace Lines cs line w → offset_at Lines cs v ≡ Some line
    → IsAddress cs line (v - w) v
address_there cs line w v first has =
    let le = first_le cs v w line first has in
    let at : w + (v - w) ≡ v = omega (arith, le) in
    let within = (offset_back Lines cs v line has).0 in
    subst (λ n. IsAddress cs line (v - w) n) at
    (from_front (v - w) (line_from cs line w first) (omega (arith, at, within))
    (ap (λ n. line_of cs n) at ∙ line_there cs v line has))

pub address_is : (cs : List ℕ) (line w v : ℕ) → IsFirstPlace Lines cs line w → offset_at Lines cs v ≡ Some line
    → address_of cs v ≡ Some (line, v - w)
address_is cs line w v first has = address_from (address_there cs line w v first has)

-- no place that isn't there has a line and a column
pub no_address : (cs : List ℕ) (v : ℕ) → None ≡ offset_at Lines cs v → address_of cs v ≡ None
no_address cs v e = by (cases_Bool (nat_le v (length cs)))
  where
    by : (nat_le v (length cs) ≡ true) ⊎ (nat_le v (length cs) ≡ false) → address_of cs v ≡ None
    by (inl in_it) = absurd (none-some _ (e ∙ cond-true (nat_le v (length cs)) (Some (weight_of Lines (take v cs))) None in_it))
    by (inr past) = cond-false (nat_le v (length cs)) (Some (line_of cs v, column_of cs v)) None past

-- the place of a line and a column is so many characters behind the front of the line
pub place_there : (cs : List ℕ) (line column w : ℕ) → IsFirstPlace Lines cs line w → offset_at Lines cs (w + column) ≡ Some line
    → place_at cs line column ≡ Some (w + column)
place_there cs line column w first has =
    let same : w + column - w ≡ column = omega arith in
    place_found cs line column (w + column)
    (subst (λ n. IsAddress cs line n (w + column)) same (address_there cs line w (w + column) first has))

-- if that is on the line
pub no_place : (cs : List ℕ) (line column w : ℕ) → IsFirstPlace Lines cs line w → offset_at Lines cs (w + column) ≢ Some line
    → place_at cs line column ≡ None
no_place cs line column w first other =
    place_missing cs line column
    (λ v a.
    let has = offset_there cs v line a.within a.on_line in
    let there = address_there cs line w v first has in
    let at : v ≡ w + column = omega (arith, first_le cs v w line first has, there.in_column, a.in_column) in
    other (subst (λ n. offset_at Lines cs n ≡ Some line) at has))

-- and if there is such a line
pub no_line : (cs : List ℕ) (line column : ℕ) → HasNoPlace Lines cs line → place_at cs line column ≡ None
no_line cs line column none =
    place_missing cs line column (λ v a. none v (offset_there cs v line a.within a.on_line))
