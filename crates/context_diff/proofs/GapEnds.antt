-- Gaps by their ends: where the replay's gap begins and ends, and how a narrowing moves an end.
use Rattle.std.proofs.Common.{◌≡◌, ℕ, zero, suc, ◌+◌, ◌-◌, ◌≤◌, Bool, true, false, inl, inr, List, [], ◌∷◌, ◌++◌, refl, ap, sym, ◌∙◌, arith, length, take, drop, length-take, length-drop, take-append-drop}
use Rattle.std.specs.Prelude.{◌||◌, if◌then◌else◌}
use Rattle.std.specs.List.{list_any}
use Rattle.std.proofs.lemmas.Bool.{cases_Bool}
use Rattle.context_diff.specs.Gaps.{Gap, until, onward, through, beyond, gap, narrow}
use Rattle.context_diff.specs.Code.GapEnds.{up_to_nth, before_first, up_to_last, gap_between}

same_gap : {K : Type 0} (g h : Gap K) → g.before ≡ h.before → g.between ≡ h.between → g.behind ≡ h.behind → g ≡ h
same_gap g h p q r = λ i. record { before = p i; between = q i; behind = r i }

until_take : {K : Type 0} (p : K → Bool) (cs : List K) → until p cs ≡ take (before_first p cs) cs
unfolding until
until_take p [] = refl
until_take p (c ∷ cs) = elim (cases_Bool (p c)) [
  | inl e ↦ rw e refl
  | inr e ↦ rw e (ap (λ xs. c ∷ xs) (until_take p cs))
]

onward_drop : {K : Type 0} (p : K → Bool) (cs : List K) → onward p cs ≡ drop (before_first p cs) cs
unfolding onward
onward_drop p [] = refl
onward_drop p (c ∷ cs) = elim (cases_Bool (p c)) [
  | inl e ↦ rw e refl
  | inr e ↦ rw e (onward_drop p cs)
]

through_take : {K : Type 0} (p : K → Bool) (cs : List K) → through p cs ≡ take (up_to_last p cs) cs
unfolding through
through_take p [] = refl
through_take p (c ∷ cs) = elim (cases_Bool (p c || list_any p cs)) [
  | inl e ↦ rw e (ap (λ xs. c ∷ xs) (through_take p cs))
  | inr e ↦ rw e refl
]

beyond_drop : {K : Type 0} (p : K → Bool) (cs : List K) → beyond p cs ≡ drop (up_to_last p cs) cs
unfolding beyond
beyond_drop p [] = refl
beyond_drop p (c ∷ cs) = elim (cases_Bool (p c || list_any p cs)) [
  | inl e ↦ rw e (beyond_drop p cs)
  | inr e ↦ rw e refl
]

pub before_first_within : {K : Type 0} (p : K → Bool) (cs : List K) → before_first p cs ≤ length cs
before_first_within p [] = omega arith
before_first_within p (c ∷ cs) = let rest = before_first_within p cs in elim (cases_Bool (p c)) [
  | inl e ↦ rw e (omega arith)
  | inr e ↦ rw e (omega arith)
]

pub up_to_last_within : {K : Type 0} (p : K → Bool) (cs : List K) → up_to_last p cs ≤ length cs
up_to_last_within p [] = omega arith
up_to_last_within p (c ∷ cs) = let rest = up_to_last_within p cs in elim (cases_Bool (p c || list_any p cs)) [
  | inl e ↦ rw e (omega arith)
  | inr e ↦ rw e (omega arith)
]

take_difference : {K : Type 0} (l k : ℕ) (cs : List K) → take ((l + k) - l) (drop l cs) ≡ take k (drop l cs)
take_difference l k cs = let e : (l + k) - l ≡ k = omega arith in ap (λ n. take n (drop l cs)) e

zero_plus : (b : ℕ) → b ≡ 0 + b
zero_plus b = omega arith

suc_plus : (l b : ℕ) → suc (l + b) ≡ suc l + b
suc_plus l b = omega arith

minus_zero : (n : ℕ) → n ≡ n - 0
minus_zero n = omega arith

zero_minus : (k : ℕ) → 0 ≡ 0 - suc k
zero_minus k = omega arith

suc_minus : (n k : ℕ) → n - k ≡ suc n - suc k
suc_minus n k = omega arith

take_none : {K : Type 0} (k : ℕ) → take {A = K} k [] ≡ []
take_none zero = refl
take_none (suc k) = refl

drop_none : {K : Type 0} (k : ℕ) → drop {A = K} k [] ≡ []
drop_none zero = refl
drop_none (suc k) = refl

take_take_less : {K : Type 0} (k n : ℕ) (cs : List K) → k ≤ n → take k (take n cs) ≡ take k cs
take_take_less zero n cs le = refl
take_take_less (suc k) zero cs le = absurd (omega arith)
take_take_less (suc k) (suc n) [] le = refl
take_take_less (suc k) (suc n) (c ∷ cs) le = ap (λ xs. c ∷ xs) (take_take_less k n cs (omega arith))

pub take_more : {K : Type 0} (l k : ℕ) (cs : List K) → take (l + k) cs ≡ take l cs ++ take k (drop l cs)
take_more zero k cs = ap (λ n. take n cs) (sym (zero_plus k))
take_more (suc l) k [] = ap (λ n. take n []) (sym (suc_plus l k)) ∙ sym (take_none k)
take_more (suc l) k (c ∷ cs) = ap (λ n. take n (c ∷ cs)) (sym (suc_plus l k)) ∙ ap (λ xs. c ∷ xs) (take_more l k cs)

drop_of_take : {K : Type 0} (k n : ℕ) (cs : List K) → drop k (take n cs) ≡ take (n - k) (drop k cs)
drop_of_take zero n cs = ap (λ m. take m cs) (minus_zero n)
drop_of_take (suc k) zero cs = ap (λ m. take m (drop (suc k) cs)) (zero_minus k)
drop_of_take (suc k) (suc n) [] = sym (take_none (suc n - suc k))
drop_of_take (suc k) (suc n) (c ∷ cs) = drop_of_take k n cs ∙ ap (λ m. take m (drop k cs)) (suc_minus n k)

drop_more : {K : Type 0} (l k : ℕ) (cs : List K) → drop k (drop l cs) ≡ drop (l + k) cs
drop_more zero k cs = ap (λ n. drop n cs) (zero_plus k)
drop_more {K} (suc l) k [] = drop_none {K = K} k ∙ sym (drop_none {K = K} (suc l + k))
drop_more (suc l) k (c ∷ cs) = drop_more l k cs ∙ ap (λ n. drop n (c ∷ cs)) (suc_plus l k)

middle : {K : Type 0} (l k r : ℕ) (cs : List K) → l + k ≤ r → take ((r - l) - k) (drop k (drop l cs)) ≡ take (r - (l + k)) (drop (l + k) cs)
middle l k r cs le = let e : (r - l) - k ≡ r - (l + k) = omega arith in λ i. take (e i) (drop_more l k cs i)

joined : {K : Type 0} (l k r : ℕ) (cs : List K) → l + k ≤ r → l ≤ r → take ((r - l) - k) (drop k (drop l cs)) ++ drop r cs ≡ drop (l + k) cs
joined l k r cs le less =
    let n = r - (l + k) in
    let whole : take n (drop (l + k) cs) ++ drop n (drop (l + k) cs) ≡ drop (l + k) cs = take-append-drop n (drop (l + k) cs) in
    let far : drop n (drop (l + k) cs) ≡ drop r cs =
    drop_more (l + k) n cs ∙ (let e : (l + k) + n ≡ r = omega arith in ap (λ m. drop m cs) e) in
    (λ i. middle l k r cs le i ++ sym far i) ∙ whole

-- the gap at the n-th cell that passes, by its ends
pub gap_ends : {K : Type 0} (p : K → Bool) (n : ℕ) (cs : List K)
    → gap p n cs ≡ gap_between cs (up_to_nth p n cs) (up_to_nth p n cs + before_first p (drop (up_to_nth p n cs) cs))
unfolding gap
gap_ends p zero cs =
    let b = before_first p cs in
    same_gap (gap p zero cs) (gap_between cs 0 (0 + b)) refl
    (until_take p cs ∙ sym (take_difference 0 b cs))
    (onward_drop p cs ∙ ap (λ n. drop n cs) (zero_plus b))
gap_ends p (suc n) [] = refl
gap_ends {K} p (suc n) (c ∷ cs) =
    let m = if p c then n else suc n in
    let l = up_to_nth p m cs in
    let b = before_first p (drop l cs) in
    let rest = gap_ends p m cs in
    same_gap (gap p (suc n) (c ∷ cs)) (gap_between (c ∷ cs) (suc l) (suc l + b))
    (ap (λ (g : Gap K). c ∷ g.before) rest)
    (ap (λ (g : Gap K). g.between) rest ∙ (take_difference l b cs ∙ sym (take_difference (suc l) b (c ∷ cs))))
    (ap (λ (g : Gap K). g.behind) rest ∙ ap (λ k. drop k (c ∷ cs)) (suc_plus l b))

-- a narrowing to the left moves the left end behind the last cell that passes
pub narrow_left : {K : Type 0} (p : K → Bool) (cs : List K) (l r : ℕ) → l ≤ r → r ≤ length cs
    → narrow true p (gap_between cs l r) ≡ gap_between cs (l + up_to_last p (take (r - l) (drop l cs))) r
narrow_left p cs l r le within =
    let mid = take (r - l) (drop l cs) in
    let k = up_to_last p mid in
    let most = up_to_last_within p mid in
    let size : length mid ≡ r - l = simp (length-take, length-drop) (omega arith) in
    same_gap (narrow true p (gap_between cs l r)) (gap_between cs (l + k) r)
    (ap (λ xs. take l cs ++ xs) (through_take p mid ∙ take_take_less k (r - l) (drop l cs) (omega arith)) ∙ sym (take_more l k cs))
    (beyond_drop p mid ∙ drop_of_take k (r - l) (drop l cs) ∙ middle l k r cs (omega arith))
    refl

-- a narrowing to the right moves the right end before the first cell that passes
pub narrow_right : {K : Type 0} (p : K → Bool) (cs : List K) (l r : ℕ) → l ≤ r → r ≤ length cs
    → narrow false p (gap_between cs l r) ≡ gap_between cs l (l + before_first p (take (r - l) (drop l cs)))
narrow_right p cs l r le within =
    let mid = take (r - l) (drop l cs) in
    let k = before_first p mid in
    let most = before_first_within p mid in
    let size : length mid ≡ r - l = simp (length-take, length-drop) (omega arith) in
    same_gap (narrow false p (gap_between cs l r)) (gap_between cs l (l + k))
    refl
    (until_take p mid ∙ take_take_less k (r - l) (drop l cs) (omega arith) ∙ sym (take_difference l k cs))
    (ap (λ xs. xs ++ drop r cs) (onward_drop p mid ∙ drop_of_take k (r - l) (drop l cs)) ∙ joined l k r cs (omega arith) (omega arith))
