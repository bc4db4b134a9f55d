-- Splits of a list at the element that stands after so many that pass a test.
use Rattle.std.proofs.Common.{◌≡◌, ℕ, zero, suc, ◌+◌, ◌<◌, Bool, true, List, [], ◌∷◌, ◌++◌, inl, inr, refl, ap, ◌∙◌, subst, arith, if◌then◌else◌}
use Rattle.std.proofs.lemmas.Bool.{cases_Bool}
use Rattle.transform_rec.proofs.CallerLemmas.{count-append, count, either, EachAt}
use Rattle.ttf_form.specs.Laws.Places.{IsMoved}
use Rattle.fixed_replay.proofs.Counts.{count-either, AreDisjoint, each-append, begins-late}
use Rattle.fixed_replay.proofs.Stretches.{three}

-- c passes, and n that pass stand before it
pub record IsSplit {K : Type 0} (p : K → Bool) (n : ℕ) (S before : List K) (c : K) (behind : List K) : Type 0 where
  pub whole : S ≡ before ++ (c ∷ behind)
  pub passes : p c ≡ true
  pub at : count p before ≡ n

pub record Split {K : Type 0} (p : K → Bool) (n : ℕ) (S : List K) : Type 0 where
  pub before : List K
  pub it : K
  pub behind : List K
  pub is : IsSplit p n S before it behind

more_split : {K : Type 0} (p : K → Bool) (n m : ℕ) (x : K) (xs : List K) → (if p x then 1 else 0) + m ≡ n → Split p m xs
    → Split p n (x ∷ xs)
more_split {K} p n m x xs e s =
    record {
      before = x ∷ s.before;
      it = s.it;
      behind = s.behind;
      is =
          record { whole = ap (λ (ys : List K). x ∷ ys) s.is.whole; passes = s.is.passes; at = let at = s.is.at in omega arith };
    }

pub split : {K : Type 0} (p : K → Bool) (n : ℕ) (S : List K) → n < count p S → Split p n S
split p n [] h = absurd (omega arith)
split p zero (x ∷ xs) h = elim (cases_Bool (p x)) [
  | inl k ↦ record { before = []; it = x; behind = xs; is = record { whole = refl; passes = k; at = refl } }
  | inr k ↦ let l : 0 < 0 + count p xs = rw k at h in more_split p 0 0 x xs (rw k refl) (split p zero xs (omega arith))
]
split p (suc n) (x ∷ xs) h = elim (cases_Bool (p x)) [
  | inl k ↦ let l : suc n < 1 + count p xs = rw k at h in more_split p (suc n) n x xs (rw k (omega arith)) (split p n xs (omega arith))
  | inr k ↦ let l : suc n < 0 + count p xs =
      rw k at h in more_split p (suc n) (suc n) x xs (rw k (omega arith)) (split p (suc n) xs (omega arith))
]

-- too few are in the list and in front
each-few : {K : Type 0} (p x : K → Bool) (q k : ℕ) (cs : List K) → count p cs + k < q → EachAt p x q k cs → count x cs ≡ 0
each-few p x q k [] h e = refl
each-few p x q k (c ∷ cs) h e =
    let ih = each-few p x q ((if p c then 1 else 0) + k) cs (omega arith) e.1 in
    elim (cases_Bool (x c)) [ inl t ↦ let b : k ≡ q = e.0 t in absurd (omega arith) | inr f ↦ rw (f, ih) refl ]

-- what stands before c when the cells of x come in: all of them, if their place is at most that of c, and none otherwise
pub split_moves : {K : Type 0} (p x : K → Bool) → AreDisjoint p x → (S before : List K) (c : K) (behind : List K)
    → S ≡ before ++ (c ∷ behind) → p c ≡ true → (q : ℕ) → EachAt p x q 0 S → (n' : ℕ) → IsMoved (count p before) q (count x S) true n'
    → count (either p x) before ≡ n'
split_moves {K} p x disjoint S before c behind whole passes q each n' m =
    let e : EachAt p x q 0 (before ++ (c ∷ behind)) = subst (λ (xs : List K). EachAt p x q 0 xs) whole each in
    let parts = each-append p x q 0 before (c ∷ behind) e in
    let sum = count-either p x disjoint before in
    let all : count x S ≡ count x before + count x (c ∷ behind) = ap (count x) whole ∙ count-append x before (c ∷ behind) in
    let at : count p before + 0 ≡ count p before = omega arith in
    let there : EachAt p x q (count p before) (c ∷ behind) = subst (λ (k : ℕ). EachAt p x q k (c ∷ behind)) at parts.1 in
    elim (three (count p before) q) [
      | inl h ↦ let none =
          begins-late p x disjoint q (count p before) (c ∷ behind) passes (omega arith) there in let a = m.less h in omega arith
      | inr h ↦ elim h [
        | inl k ↦ let none = each-few p x q 0 before (omega arith) parts.0 in let a = m.more k in omega arith
        | inr k ↦ let none =
            begins-late p x disjoint q (count p before) (c ∷ behind) passes (omega arith) there in let a = m.tie_left k refl in omega arith
      ]
    ]
