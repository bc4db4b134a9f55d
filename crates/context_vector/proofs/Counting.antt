-- Counts that are read in parts, from the front.
use Rattle.std.proofs.Common.{◌≡◌, ℕ, zero, suc, ◌+◌, ◌-◌, ◌<◌, ◌≤◌, ◌≢◌, true, false, List, [], ◌∷◌, ◌++◌, length, get_or, take, drop, if◌then◌else◌, Some, None, refl, sym, ap, subst, ◌∙◌, arith}
use Rattle.std.specs.Prelude.{◌==◌, nat_lt, nat_le, slice_get}
use Rattle.std.proofs.Math.Seq.{drop-append_seam, take-append_seam}
use Rattle.std.proofs.lemmas.Bool.{ne_eqb, lt-ltb, ltb-true}
use Rattle.std.proofs.lemmas.Bool.Decides.{nat_tests}
use Rattle.std.proofs.lemmas.List.{append_assoc, drop-append-le, take-append-drop, take-append-le}
use Rattle.std.proofs.lemmas.Option.{slice_get_within}
use Rattle.op_name.proofs.CallerLemmas.{number_order}
use Rattle.context_vector.specs.Contexts.{count_in, put_count, sum_of_counts, AreCounts}
use Rattle.context_vector.specs.Vectors.{SitesBelow}
use Rattle.context_vector.specs.Shortfalls.{first_short}
use Rattle.context_vector.specs.Code.Counting.{AreEnough, SitesFrom}
use Rattle.context_vector.specs.Code.Pieces.{joined}
use Rattle.context_vector.specs.Code.Places.{IsPlace, IsGap}
use Rattle.context_vector.specs.Code.Readers.{ReaderData, left_of}
use Rattle.context_vector.proofs.Keyed.{value_at, value_after}
use Rattle.context_vector.proofs.Counts.{same_site, count_is, counts_after, counts_from, counts_rise}
use Rattle.context_vector.proofs.Merging.{begins, ends, mine_passed, both_passed, short_first, lacks_all, lacks_first, enough_passed}

-- what is left, by the part that is being read: before a part of it is passed, and after
pub in_parts :
    {A : Type 0} (r s : ReaderData A) (part : List A)
    → left_of s ≡ left_of r → part ≡ s.front → left_of r ≡ part ++ joined s.pieces
in_parts r s part same is = sym same ∙ ap (λ xs. xs ++ joined s.pieces) (sym is)

pub past_first :
    {A : Type 0} (s t : ReaderData A) (part : List A) (n : ℕ)
    → part ≡ s.front → n ≤ length part → left_of t ≡ drop n (left_of s) → left_of t ≡ drop n part ++ joined s.pieces
past_first s t part n is short passed =
    passed ∙ (ap (λ xs. drop n (xs ++ joined s.pieces)) (sym is) ∙ drop-append-le n part (joined s.pieces) short)

pub past_part :
    {A : Type 0} (s t : ReaderData A) (part : List A)
    → part ≡ s.front → left_of t ≡ drop (length part) (left_of s) → left_of t ≡ joined s.pieces
past_part s t part is passed =
    passed ∙ (ap (λ xs. drop (length part) (xs ++ joined s.pieces)) (sym is) ∙ drop-append_seam part (joined s.pieces))

-- parts of counts are counts
pub counts_left : (low : ℕ) (ps qs : List (ℕ × ℕ)) → AreCounts low (ps ++ qs) → AreCounts low ps
counts_left low [] qs are = tt
counts_left low (p ∷ ps) qs are = (are.0, are.1, are.2, are.3, counts_left (p.0 + 1) ps qs are.4)

pub counts_right : (low : ℕ) (ps qs : List (ℕ × ℕ)) → AreCounts low (ps ++ qs) → AreCounts low qs
counts_right low [] qs are = are
counts_right low (p ∷ ps) qs are = counts_from low (p.0 + 1) qs (omega (arith, are.0)) (counts_right (p.0 + 1) ps qs are.4)

pub counts_drop : (low n : ℕ) (ps : List (ℕ × ℕ)) → AreCounts low ps → AreCounts low (drop n ps)
counts_drop low n ps are = counts_right low (take n ps) (drop n ps) (subst (AreCounts low) (sym (take-append-drop n ps)) are)

-- sites below one and from it on
pub below_append : (ps qs : List (ℕ × ℕ)) (s : ℕ) → SitesBelow ps s → SitesBelow qs s → SitesBelow (ps ++ qs) s
below_append [] qs s below more = more
below_append (p ∷ ps) qs s below more = (below.0, below_append ps qs s below.1 more)

pub from_append : (s : ℕ) (ps qs : List (ℕ × ℕ)) → SitesFrom s ps → SitesFrom s qs → SitesFrom s (ps ++ qs)
from_append s [] qs from more = more
from_append s (p ∷ ps) qs from more = (from.0, from_append s ps qs from.1 more)

pub from_low : (low s : ℕ) (ps : List (ℕ × ℕ)) → s ≤ low → AreCounts low ps → SitesFrom s ps
from_low low s [] le are = tt
from_low low s (p ∷ ps) le are = (omega (arith, are.0), from_low (p.0 + 1) s ps (omega (arith, are.0)) are.4)

same_pair : (p q : ℕ × ℕ) → Some p ≡ Some q → p ≡ q
same_pair p q e = cc

-- what the last site of a part says of the sites before and after it
pub last_place : (ps : List (ℕ × ℕ)) (p : ℕ × ℕ) → slice_get ps (length ps - 1) ≡ Some p → length ps ≡ suc (length ps - 1)
last_place ps p is = omega (arith, slice_get_within ps (length ps - 1) p is)

pub last_below :
    (low : ℕ) (ps : List (ℕ × ℕ)) (i : ℕ) (p : ℕ × ℕ) (s : ℕ) → AreCounts low ps → length ps ≡ suc i → slice_get ps i ≡ Some p
    → p.0 < s → SitesBelow ps s
last_below low [] i p s are long is less = tt
last_below low (x ∷ []) zero p s are long is less = (subst (λ (y : ℕ × ℕ). y.0 < s) (sym (same_pair x p is)) less, tt)
last_below low (x ∷ []) (suc i) p s are long is less = absurd (omega (arith, long))
last_below low (x ∷ (y ∷ ps)) zero p s are long is less = absurd (omega (arith, long))
last_below low (x ∷ (y ∷ ps)) (suc i) p s are long is less =
    let rest = last_below (x.0 + 1) (y ∷ ps) i p s are.4 (omega (arith, long)) is less in
    (omega (arith, are.4.0, rest.0), rest)

pub last_reaches :
    (low : ℕ) (ps : List (ℕ × ℕ)) (i : ℕ) (p : ℕ × ℕ) (s : ℕ) (more : List (ℕ × ℕ)) → AreCounts low (ps ++ more)
    → length ps ≡ suc i → slice_get ps i ≡ Some p → s ≤ p.0 → AreCounts (s + 1) more
last_reaches low [] i p s more are long is from = absurd (omega (arith, long))
last_reaches low (x ∷ []) zero p s more are long is from =
    counts_from (s + 1) (x.0 + 1) more (subst (λ (y : ℕ × ℕ). s + 1 ≤ y.0 + 1) (sym (same_pair x p is)) (omega arith)) are.4
last_reaches low (x ∷ []) (suc i) p s more are long is from = absurd (omega (arith, long))
last_reaches low (x ∷ (y ∷ ps)) zero p s more are long is from = absurd (omega (arith, long))
last_reaches low (x ∷ (y ∷ ps)) (suc i) p s more are long is from =
    last_reaches (x.0 + 1) (y ∷ ps) i p s more are.4 (omega (arith, long)) is from

-- a count is looked up in the part where its site is or would be
pub count_past : (ps qs : List (ℕ × ℕ)) (s : ℕ) → SitesBelow ps s → count_in (ps ++ qs) s ≡ count_in qs s
count_past [] qs s below = refl
count_past (p ∷ ps) qs s below = rw (ne_eqb p.0 s (omega (arith, below.0))) (count_past ps qs s below.1)

pub count_front : (ps more : List (ℕ × ℕ)) (s : ℕ) → AreCounts (s + 1) more → count_in (ps ++ more) s ≡ count_in ps s
count_front [] more s are =
    count_is more s ∙ value_after same_site nat_lt number_order s more (counts_after s (s + 1) more (omega arith) are)
count_front (p ∷ ps) more s are = ap (λ v. if p.0 == s then p.1 else v) (count_front ps more s are)

-- the parts around the place of a site, and around its gap
counts_at : (low : ℕ) (ps : List (ℕ × ℕ)) (i : ℕ) (d : ℕ × ℕ) → AreCounts low ps → i < length ps → low ≤ (get_or ps i d).0
counts_at low [] i d are within = absurd (omega arith)
counts_at low (p ∷ ps) zero d are within = are.0
counts_at low (p ∷ ps) (suc i) d are within = omega (arith, are.0, counts_at (p.0 + 1) ps i d are.4 (omega arith))

below_place :
    (low : ℕ) (ps : List (ℕ × ℕ)) (s i : ℕ) → AreCounts low ps → i < length ps → ((d : ℕ × ℕ) → (get_or ps i d).0 ≡ s)
    → SitesBelow (take i ps) s
below_place low [] s i are within key = absurd (omega arith)
below_place low (p ∷ ps) s zero are within key = tt
below_place low (p ∷ ps) s (suc i) are within key =
    (omega (arith, key p, counts_at (p.0 + 1) ps i p are.4 (omega arith)), below_place (p.0 + 1) ps s i are.4 (omega arith) key)

from_place :
    (low : ℕ) (ps : List (ℕ × ℕ)) (s i : ℕ) → AreCounts low ps → i < length ps → ((d : ℕ × ℕ) → (get_or ps i d).0 ≡ s)
    → SitesFrom s (drop i ps)
from_place low [] s i are within key = absurd (omega arith)
from_place low (p ∷ ps) s zero are within key = (omega (arith, key p), from_low (p.0 + 1) s ps (omega (arith, key p)) are.4)
from_place low (p ∷ ps) s (suc i) are within key = from_place (p.0 + 1) ps s i are.4 (omega arith) key

below_gap : (ps : List (ℕ × ℕ)) (s i : ℕ) → ((j : ℕ) (d : ℕ × ℕ) → j < i → nat_lt (get_or ps j d).0 s ≡ true) → SitesBelow (take i ps) s
below_gap [] s zero before = tt
below_gap [] s (suc i) before = tt
below_gap (p ∷ ps) s zero before = tt
below_gap (p ∷ ps) s (suc i) before =
    (ltb-true p.0 s (before 0 p (omega arith)), below_gap ps s i (λ j d less. before (suc j) d (omega arith)))

from_gap :
    (ps : List (ℕ × ℕ)) (s i : ℕ) → ((j : ℕ) (d : ℕ × ℕ) → i ≤ j → j < length ps → nat_lt s (get_or ps j d).0 ≡ true)
    → SitesFrom s (drop i ps)
from_gap [] s zero after = tt
from_gap [] s (suc i) after = tt
from_gap (p ∷ ps) s zero after =
    let first = ltb-true s p.0 (after 0 p (omega arith) (omega arith)) in
    (omega (arith, first), from_gap ps s zero (λ j d from within. after (suc j) d (omega arith) (omega arith)))
from_gap (p ∷ ps) s (suc i) after = from_gap ps s i (λ j d from within. after (suc j) d (omega arith) (omega arith))

pub place_parts : (ps : List (ℕ × ℕ)) (s i : ℕ) → AreCounts 0 ps → IsPlace ps s i → SitesBelow (take i ps) s × SitesFrom s (drop i ps)
place_parts ps s i are place = (below_place 0 ps s i are place.within place.key, from_place 0 ps s i are place.within place.key)

pub gap_parts : (ps : List (ℕ × ℕ)) (s i : ℕ) → IsGap nat_lt ps s i → SitesBelow (take i ps) s × SitesFrom s (drop i ps)
gap_parts ps s i gap = (below_gap ps s i gap.before, from_gap ps s i gap.after)

-- a count is put behind all lesser sites, before what comes after the site
pub put_past : (ps qs : List (ℕ × ℕ)) (s k : ℕ) → SitesBelow ps s → put_count s k (ps ++ qs) ≡ ps ++ put_count s k qs
put_past [] qs s k below = refl
put_past (p ∷ ps) qs s k below =
    rw (ne_eqb p.0 s (omega (arith, below.0)), more_is_false s p.0 below.0) (ap (λ xs. p ∷ xs) (put_past ps qs s k below.1))
  where
    more_is_false : (a b : ℕ) → b < a → nat_le a b ≡ false
    more_is_false a b less = grind (arith, nat_tests)

pub put_before :
    (qs : List (ℕ × ℕ)) (q : ℕ × ℕ) (s k : ℕ) → SitesFrom s qs → slice_get qs 0 ≡ Some q → q.0 ≢ s
    → put_count s k qs ≡ (s, k) ∷ qs
put_before [] q s k from is other = refl
put_before (p ∷ qs) q s k from is other =
    let same = same_pair p q is in
    let other' : p.0 ≢ s = subst (λ (x : ℕ × ℕ). x.0 ≢ s) (sym same) other in
    rw (ne_eqb p.0 s other', le_is_true s p.0 from.0) refl
  where
    le_is_true : (a b : ℕ) → a ≤ b → nat_le a b ≡ true
    le_is_true a b le = grind (arith, nat_tests)

pub put_alone : (qs : List (ℕ × ℕ)) (s k : ℕ) → slice_get qs 0 ≡ None → put_count s k qs ≡ (s, k) ∷ qs
put_alone qs s k is = ap (put_count s k) (ends qs is) ∙ ap (λ xs. (s, k) ∷ xs) (sym (ends qs is))

-- a list that begins as another one up to a site, and has this count of it before what comes behind the site in the other one
same_fronts : (xs ys left mine : List (ℕ × ℕ)) → length xs ≡ length ys → xs ++ left ≡ ys ++ mine → xs ≡ ys
same_fronts xs ys left mine long same =
    sym (take-append_seam xs left) ∙ ((λ j. take (long j) (same j)) ∙ take-append_seam ys mine)

pub put_between :
    (before after xs ys left mine rest : List (ℕ × ℕ)) (s k : ℕ) → length xs ≡ length ys → before ≡ xs ++ left
    → before ≡ ys ++ mine → SitesBelow xs s → put_count s k left ≡ (s, k) ∷ rest → after ≡ ys ++ (s, k) ∷ rest
    → after ≡ put_count s k before
put_between before after xs ys left mine rest s k long whole whole' below put is =
    is
    ∙ ((λ j. sym (same_fronts xs ys left mine long (sym whole ∙ whole')) j ++ sym put j)
    ∙ (sym (put_past xs left s k below) ∙ ap (put_count s k) (sym whole)))

-- what was passed grows by a part of what is left
pub passed_part :
    (all xs left part rest now : List (ℕ × ℕ))
    → all ≡ xs ++ left → left ≡ part ++ rest → now ≡ rest → all ≡ (xs ++ part) ++ now
passed_part all xs left part rest now whole parts is =
    whole ∙ (ap (λ ys. xs ++ ys) parts ∙ (sym (append_assoc xs part rest) ∙ ap (λ ys. (xs ++ part) ++ ys) (sym is)))

pub passed_first :
    (all xs left part rest now : List (ℕ × ℕ)) (n : ℕ)
    → all ≡ xs ++ left → left ≡ part ++ rest → now ≡ drop n part ++ rest → all ≡ (xs ++ take n part) ++ now
passed_first all xs left part rest now n whole parts is =
    let halves = ap (λ ys. ys ++ rest) (sym (take-append-drop n part)) ∙ append_assoc (take n part) (drop n part) rest in
    passed_part all xs left (take n part) (drop n part ++ rest) now whole (parts ∙ halves) is

-- the sum of counts by their first pair
pub sum_first : (ps : List (ℕ × ℕ)) (p : ℕ × ℕ) → slice_get ps 0 ≡ Some p → sum_of_counts ps ≡ p.1 + sum_of_counts (drop 1 ps)
sum_first ps p is = ap sum_of_counts (begins ps p is)

-- counts at the same places, of which none is short
pub enough_at :
    (ps qs : List (ℕ × ℕ)) → length ps ≡ length qs
    → ((i : ℕ) (d : ℕ × ℕ) → i < length qs → ((get_or qs i d).0 ≡ (get_or ps i d).0) × ((get_or qs i d).1 ≤ (get_or ps i d).1))
    → AreEnough ps qs
enough_at [] [] same all = tt
enough_at [] (q ∷ qs) same all = absurd (omega (arith, same))
enough_at (p ∷ ps) [] same all = absurd (omega (arith, same))
enough_at (p ∷ ps) (q ∷ qs) same all =
    let first = all 0 p (omega arith) in
    (first.0, first.1, enough_at ps qs (omega (arith, same)) (λ i d within. all (suc i) d (omega (arith, within))))

-- two lists of counts, read side by side
short_is : (ps qs : List (ℕ × ℕ)) → first_short (count_in ps) qs ≡ first_short (value_at same_site nat_lt ps) qs
short_is ps qs = ap (λ (had : ℕ → ℕ). first_short had qs) (λ j s. count_is ps s j)

pub lesser_passed :
    (ps qs : List (ℕ × ℕ)) (p q : ℕ × ℕ) → AreCounts 0 qs → slice_get ps 0 ≡ Some p → slice_get qs 0 ≡ Some q → p.0 < q.0
    → first_short (count_in ps) qs ≡ first_short (count_in (drop 1 ps)) qs
lesser_passed ps qs p q are is is' less =
    short_is ps qs
    ∙ (mine_passed same_site nat_lt number_order ps qs p q (counts_rise 0 qs are) is is' (lt-ltb p.0 q.0 less)
    ∙ sym (short_is (drop 1 ps) qs))

pub same_passed :
    (ps qs : List (ℕ × ℕ)) (p q : ℕ × ℕ) → AreCounts 0 qs → slice_get ps 0 ≡ Some p → slice_get qs 0 ≡ Some q → q.0 ≡ p.0
    → q.1 ≤ p.1 → first_short (count_in ps) qs ≡ first_short (count_in (drop 1 ps)) (drop 1 qs)
same_passed ps qs p q are is is' same enough =
    short_is ps qs
    ∙ (both_passed same_site nat_lt number_order ps qs p q (counts_rise 0 qs are) is is' same enough
    ∙ sym (short_is (drop 1 ps) (drop 1 qs)))

pub site_short :
    (ps qs : List (ℕ × ℕ)) (p q : ℕ × ℕ) → slice_get ps 0 ≡ Some p → slice_get qs 0 ≡ Some q → q.0 ≡ p.0 → p.1 < q.1
    → first_short (count_in ps) qs ≡ Some (q.0, p.1 + 1)
site_short ps qs p q is is' same less = short_is ps qs ∙ short_first same_site nat_lt number_order ps qs p q is is' same less

pub site_lacks :
    (ps qs : List (ℕ × ℕ)) (p q : ℕ × ℕ) → AreCounts 0 ps → AreCounts 0 qs → slice_get ps 0 ≡ Some p → slice_get qs 0 ≡ Some q
    → q.0 < p.0 → first_short (count_in ps) qs ≡ Some (q.0, 1)
site_lacks ps qs p q are are' is is' more =
    let rise = counts_rise 0 ps are in
    let rise' = counts_rise 0 qs are' in
    short_is ps qs ∙ lacks_first same_site nat_lt number_order ps qs p q rise rise' is is' (lt-ltb q.0 p.0 more)

pub sites_lack :
    (ps qs : List (ℕ × ℕ)) (q : ℕ × ℕ) → AreCounts 0 qs → slice_get ps 0 ≡ None → slice_get qs 0 ≡ Some q
    → first_short (count_in ps) qs ≡ Some (q.0, 1)
sites_lack ps qs q are is is' = short_is ps qs ∙ lacks_all same_site nat_lt number_order ps qs q (counts_rise 0 qs are) is is'

enough_parts :
    (ps qs more others : List (ℕ × ℕ)) → AreEnough ps qs → AreCounts 0 (qs ++ others)
    → first_short (count_in (ps ++ more)) (qs ++ others) ≡ first_short (count_in more) others
enough_parts ps qs more others enough are =
    short_is (ps ++ more) (qs ++ others)
    ∙ (enough_passed same_site nat_lt number_order ps qs more others enough (counts_rise 0 (qs ++ others) are)
    ∙ sym (short_is more others))

-- what a part begins with, before what is left behind it
pub fronts_of : (n : ℕ) (ps more : List (ℕ × ℕ)) → n ≤ length ps → ps ++ more ≡ take n ps ++ drop n (ps ++ more)
fronts_of n ps more short = sym (take-append-drop n (ps ++ more)) ∙ ap (λ xs. xs ++ drop n (ps ++ more)) (take-append-le n ps more short)

pub parts_passed :
    (n : ℕ) (ps qs more others : List (ℕ × ℕ)) → n ≤ length ps → n ≤ length qs → AreEnough (take n ps) (take n qs)
    → AreCounts 0 (qs ++ others)
    → first_short (count_in (ps ++ more)) (qs ++ others) ≡ first_short (count_in (drop n (ps ++ more))) (drop n (qs ++ others))
parts_passed n ps qs more others short short' enough are =
    let mine = fronts_of n ps more short in
    let theirs = fronts_of n qs others short' in
    (λ j. first_short (count_in (mine j)) (theirs j))
    ∙ enough_parts (take n ps) (take n qs) (drop n (ps ++ more)) (drop n (qs ++ others)) enough (subst (AreCounts 0) theirs are)
