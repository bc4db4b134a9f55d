-- The part of a list in front of an element that stands in it once at most.
use Rattle.std.proofs.Common.{◌≡◌, ℕ, zero, suc, ◌+◌, ◌≤◌, Bool, true, false, if◌then◌else◌, List, [], ◌∷◌, Option, Some, None, length, filter, take, slice_get, inl, inr, refl, sym, ap, ◌∙◌, arith}
use Rattle.std.proofs.lemmas.Bool.{cases_Bool, false_from_ne_true}
use Rattle.context_diff.specs.Gaps.{until}
use Rattle.context_diff.specs.Replays.{Cell}
use Rattle.transform_rec.proofs.CallerLemmas.{count}
use Rattle.site_anchors.specs.Anchors.{is_same}
use Rattle.site_anchors.proofs.Cells.{one_hit, one_miss, itself, same_cell}

-- an element that stands at a place and passes is counted
pub counted_at : {A : Type 0} (p : A → Bool) (xs : List A) (i : ℕ) (x : A) → slice_get xs i ≡ Some x → p x ≡ true → 1 ≤ count p xs
counted_at {A} p [] i x at e = let none : ◌≡◌ {A = Option A} None (Some x) = at in absurd (cc)
counted_at p (y ∷ ys) zero x at e =
    let is : y ≡ x = cc in
    omega (arith, one_hit (p y) (ap p is ∙ e))
counted_at p (y ∷ ys) (suc i) x at e = omega (arith, counted_at p ys i x at e)

-- where one element passes, those in front of it are those up to its place
pub front_is : {A : Type 0} (p : A → Bool) (xs : List A) (i : ℕ) (x : A) → count p xs ≤ 1 → slice_get xs i ≡ Some x → p x ≡ true
    → take i xs ≡ until p xs
unfolding until
front_is {A} p [] i x once at e = let none : ◌≡◌ {A = Option A} None (Some x) = at in absurd (cc)
front_is p (y ∷ ys) zero x once at e =
    let is : y ≡ x = cc in
    rw (ap p is ∙ e) refl
front_is {A} p (y ∷ ys) (suc i) x once at e = elim (cases_Bool (p y)) [
  | inl hit ↦ absurd (omega (arith, once, one_hit (p y) hit, counted_at p ys i x at e))
  | inr miss ↦ rw miss (ap (λ (zs : List A). y ∷ zs) (front_is p ys i x (omega (arith, once)) at e))
]

-- no more of them pass a test than of the whole list
pub front_within : {A : Type 0} (p q : A → Bool) (xs : List A) → length (filter q (until p xs)) ≤ length (filter q xs)
unfolding until
front_within p q [] = omega arith
front_within p q (x ∷ xs) = elim (cases_Bool (p x)) [
  | inl hit ↦ rw hit (omega arith)
  | inr miss ↦ let rest = front_within p q xs in elim (cases_Bool (q x)) [ inl k ↦ rw (miss, k) (omega arith) | inr k ↦ rw (miss, k) rest ]
]

-- ---- a cell that stands in the list

kept_yes : (q : Cell → Bool) (x : Cell) (xs : List Cell) → q x ≡ true → filter q (x ∷ xs) ≡ x ∷ filter q xs
kept_yes q x xs e = rw e refl

kept_no : (q : Cell → Bool) (x : Cell) (xs : List Cell) → q x ≡ false → filter q (x ∷ xs) ≡ filter q xs
kept_no q x xs e = rw e refl

before_here : (c x : Cell) (xs : List Cell) → is_same c x ≡ true → until (is_same c) (x ∷ xs) ≡ []
unfolding until
before_here c x xs e = rw e refl

before_later : (c x : Cell) (xs : List Cell) → is_same c x ≡ false → until (is_same c) (x ∷ xs) ≡ x ∷ until (is_same c) xs
unfolding until
before_later c x xs e = rw e refl

-- no more of those in front of it and of the cell itself pass a test than of the whole list
pub up_to_within : (c : Cell) (q : Cell → Bool) (xs : List Cell) → 1 ≤ count (is_same c) xs
    → length (filter q (until (is_same c) xs)) + (if q c then 1 else 0) ≤ length (filter q xs)
up_to_within c q [] there = absurd (omega (arith, there))
up_to_within c q (x ∷ xs) there = elim (cases_Bool (is_same c x)) [
  | inl hit ↦
      let none = ap (λ (l : List Cell). length (filter q l)) (before_here c x xs hit) in
      let same = ap q (same_cell c x hit) in
      elim (cases_Bool (q x)) [
        | inl k ↦
            let long = ap (λ (l : List Cell). length l) (kept_yes q x xs k) in
            let one = one_hit (q c) (sym same ∙ k) in
            omega (arith, none, long, one)
        | inr k ↦
            let zero = one_miss (q c) (sym same ∙ k) in
            omega (arith, none, zero)
      ]
  | inr miss ↦
      let later : 1 ≤ count (is_same c) xs =
      (let zero = one_miss (is_same c x) miss in omega (arith, there, zero)) in
      let rest = up_to_within c q xs later in
      let front = ap (λ (l : List Cell). length (filter q l)) (before_later c x xs miss) in
      elim (cases_Bool (q x)) [
        | inl k ↦
            let long = ap (λ (l : List Cell). length l) (kept_yes q x xs k) in
            let less = ap (λ (l : List Cell). length l) (kept_yes q x (until (is_same c) xs) k) in
            omega (arith, rest, front, long, less)
        | inr k ↦
            let long = ap (λ (l : List Cell). length l) (kept_no q x xs k) in
            let less = ap (λ (l : List Cell). length l) (kept_no q x (until (is_same c) xs) k) in
            omega (arith, rest, front, long, less)
      ]
]

-- what a test keeps stands in the list, and passes
pub kept_there : (c : Cell) (q : Cell → Bool) (xs : List Cell) (v : ℕ) → slice_get (filter q xs) v ≡ Some c
    → (1 ≤ count (is_same c) xs) × (q c ≡ true)
kept_there c q [] v got = let none : ◌≡◌ {A = Option Cell} None (Some c) = got in absurd (cc)
kept_there c q (x ∷ xs) zero got = elim (cases_Bool (q x)) [
  | inl k ↦
      let first : Some x ≡ Some c = ap (λ (l : List Cell). slice_get l 0) (sym (kept_yes q x xs k)) ∙ got in
      let is : x ≡ c = cc in
      (omega (arith, one_hit (is_same c x) (ap (is_same c) is ∙ itself c)), ap q (sym is) ∙ k)
  | inr k ↦
      let later = kept_there c q xs 0 (ap (λ (l : List Cell). slice_get l 0) (sym (kept_no q x xs k)) ∙ got) in
      (omega (arith, later.0), later.1)
]
kept_there c q (x ∷ xs) (suc v) got = elim (cases_Bool (q x)) [
  | inl k ↦
      let later = kept_there c q xs v (ap (λ (l : List Cell). slice_get l (suc v)) (sym (kept_yes q x xs k)) ∙ got) in
      (omega (arith, later.0), later.1)
  | inr k ↦
      let later = kept_there c q xs (suc v) (ap (λ (l : List Cell). slice_get l (suc v)) (sym (kept_no q x xs k)) ∙ got) in
      (omega (arith, later.0), later.1)
]

-- a cell that is kept later on is not the first one
later_other : (c : Cell) (q : Cell → Bool) (x : Cell) (xs : List Cell) (v : ℕ) → count (is_same c) (x ∷ xs) ≤ 1
    → slice_get (filter q xs) v ≡ Some c
    → is_same c x ≡ false
later_other c q x xs v once got =
    false_from_ne_true (is_same c x) (λ hit. omega (arith, once, one_hit (is_same c x) hit, (kept_there c q xs v got).0))

front_long : (c : Cell) (q : Cell → Bool) (x : Cell) (xs : List Cell) → is_same c x ≡ false
    → length (filter q (until (is_same c) (x ∷ xs))) ≡ length (filter q (x ∷ until (is_same c) xs))
front_long c q x xs miss = ap (λ (l : List Cell). length (filter q l)) (before_later c x xs miss)

-- and behind as many others that are kept
pub kept_behind : (c : Cell) (q : Cell → Bool) (xs : List Cell) (v : ℕ) → count (is_same c) xs ≤ 1 → slice_get (filter q xs) v ≡ Some c
    → length (filter q (until (is_same c) xs)) ≡ v
kept_behind c q [] v once got = let none : ◌≡◌ {A = Option Cell} None (Some c) = got in absurd (cc)
kept_behind c q (x ∷ xs) zero once got = elim (cases_Bool (q x)) [
  | inl k ↦
      let first : Some x ≡ Some c = ap (λ (l : List Cell). slice_get l 0) (sym (kept_yes q x xs k)) ∙ got in
      let is : x ≡ c = cc in
      ap (λ (l : List Cell). length (filter q l)) (before_here c x xs (ap (is_same c) is ∙ itself c))
  | inr k ↦
      let later = ap (λ (l : List Cell). slice_get l 0) (sym (kept_no q x xs k)) ∙ got in
      front_long c q x xs (later_other c q x xs 0 once later)
      ∙ ap (λ (l : List Cell). length l) (kept_no q x (until (is_same c) xs) k)
      ∙ kept_behind c q xs 0 (omega (arith, once)) later
]
kept_behind c q (x ∷ xs) (suc v) once got = elim (cases_Bool (q x)) [
  | inl k ↦
      let later = ap (λ (l : List Cell). slice_get l (suc v)) (sym (kept_yes q x xs k)) ∙ got in
      front_long c q x xs (later_other c q x xs v once later)
      ∙ ap (λ (l : List Cell). length l) (kept_yes q x (until (is_same c) xs) k)
      ∙ ap suc (kept_behind c q xs v (omega (arith, once)) later)
  | inr k ↦
      let later = ap (λ (l : List Cell). slice_get l (suc v)) (sym (kept_no q x xs k)) ∙ got in
      front_long c q x xs (later_other c q x xs (suc v) once later)
      ∙ ap (λ (l : List Cell). length l) (kept_no q x (until (is_same c) xs) k)
      ∙ kept_behind c q xs (suc v) (omega (arith, once)) later
]
