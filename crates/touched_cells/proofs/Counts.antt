-- Sums over the cells of a replay are those over the cells that its inserts put, whatever is summed.
use Rattle.std.proofs.Common.{◌≡◌, ℕ, zero, suc, ◌+◌, Bool, true, false, List, [], ◌∷◌, ◌++◌, if◌then◌else◌, inl, inr, refl, ap, sym, ◌∙◌, arith, append_assoc}
use Rattle.std.specs.Prelude.{◌||◌, sum_by, nat_lt}
use Rattle.std.specs.List.{list_any}
use Rattle.std.proofs.lemmas.Bool.{cases_Bool}
use Rattle.std.proofs.lemmas.List.Sums.{sum_by-append, sum_by-cons}
use Rattle.context_diff.specs.Operations.{OpData}
use Rattle.context_diff.specs.Gaps.{Gap, until, onward, through, beyond, gap, narrow}
use Rattle.context_diff.specs.Replays.{Cell, Insertion, insertions_in, is_earlier, put_by, sort_by, fixed_order, first_of, last_of, cells_from, narrow_over, narrowed_by, narrowed, gap_of, put, replay, replay_of}

-- ---- a gap parts the cells, and a narrowed one too

abbrev whole_of : {K : Type 0} → Gap K → List K
whole_of g = g.before ++ (g.between ++ g.behind)

until_onward : {K : Type 0} (p : K → Bool) (cs : List K) → until p cs ++ onward p cs ≡ cs
unfolding until onward
until_onward p [] = refl
until_onward p (c ∷ cs) = elim (cases_Bool (p c)) [
  | inl e ↦ rw e refl
  | inr e ↦ rw e (ap (λ xs. c ∷ xs) (until_onward p cs))
]

through_beyond : {K : Type 0} (p : K → Bool) (cs : List K) → through p cs ++ beyond p cs ≡ cs
unfolding through beyond
through_beyond p [] = refl
through_beyond p (c ∷ cs) = elim (cases_Bool (p c || list_any p cs)) [
  | inl e ↦ rw e (ap (λ xs. c ∷ xs) (through_beyond p cs))
  | inr e ↦ rw e refl
]

whole_gap : {K : Type 0} (p : K → Bool) (n : ℕ) (cs : List K) → whole_of (gap p n cs) ≡ cs
unfolding gap
whole_gap p zero cs = until_onward p cs
whole_gap p (suc n) [] = refl
whole_gap p (suc n) (c ∷ cs) = ap (λ xs. c ∷ xs) (whole_gap p (if p c then n else suc n) cs)

whole_narrow : {K : Type 0} (left : Bool) (p : K → Bool) (g : Gap K) → whole_of (narrow left p g) ≡ whole_of g
whole_narrow true p g =
    append_assoc g.before (through p g.between) (beyond p g.between ++ g.behind)
    ∙ ap (λ xs. g.before ++ xs)
    (sym (append_assoc (through p g.between) (beyond p g.between) g.behind) ∙ ap (λ xs. xs ++ g.behind) (through_beyond p g.between))
whole_narrow false p g =
    ap (λ xs. g.before ++ xs)
    (sym (append_assoc (until p g.between) (onward p g.between) g.behind) ∙ ap (λ xs. xs ++ g.behind) (until_onward p g.between))

whole_side : (left : Bool) (x : Insertion) (g : Gap Cell)
    → whole_of (if left then narrow true (last_of x) g else narrow false (first_of x.name) g) ≡ whole_of g
whole_side true x g = whole_narrow true (last_of x) g
whole_side false x g = whole_narrow false (first_of x.name) g

whole_over : (left : Bool) (x : Insertion) (g : Gap Cell) → whole_of (narrow_over left x g) ≡ whole_of g
whole_over left x g = elim (cases_Bool (list_any (first_of x.name) g.between)) [
  | inl e ↦ rw e (whole_side left x g)
  | inr e ↦ rw e refl
]

whole_by : (o x : Insertion) (g : Gap Cell) → whole_of (narrowed_by o x g) ≡ whole_of g
whole_by o x g = elim (cases_Bool (o.sees x.name)) [
  | inl e ↦ rw e refl
  | inr e ↦ rw e (whole_over (nat_lt x.name.site o.name.site) x g)
]

whole_narrowed : (o : Insertion) (xs : List Insertion) (g : Gap Cell) → whole_of (narrowed o xs g) ≡ whole_of g
unfolding narrowed
whole_narrowed o [] g = refl
whole_narrowed o (x ∷ xs) g = whole_narrowed o xs (narrowed_by o x g) ∙ whole_by o x g

-- ---- sums

-- the sum over the cells that an insert puts
abbrev pub sum_put : (Cell → ℕ) → Insertion → ℕ
sum_put f o = sum_by f (cells_from o)

sum-put : (f : Cell → ℕ) (o : Insertion) (earlier : List Insertion) (cells : List Cell)
    → sum_by f (put o earlier cells) ≡ sum_put f o + sum_by f cells
sum-put f o earlier cells =
    let g = gap_of o earlier cells in
    let new = cells_from o in
    let whole : whole_of g ≡ cells =
    whole_narrowed o earlier (gap (λ c. o.sees c.0) o.place cells) ∙ whole_gap (λ c. o.sees c.0) o.place cells in
    let all = ap (sum_by f) whole in
    omega (
      arith,
      all,
      sum_by-append f g.before (g.between ++ (new ++ g.behind)),
      sum_by-append f g.between (new ++ g.behind),
      sum_by-append f new g.behind,
      sum_by-append f g.before (g.between ++ g.behind),
      sum_by-append f g.between g.behind,
    )

sum-replay : (f : Cell → ℕ) (earlier : List Insertion) (cells : List Cell) (os : List Insertion)
    → sum_by f (replay earlier cells os) ≡ sum_by f cells + sum_by (sum_put f) os
unfolding replay
sum-replay f earlier cells [] = omega arith
sum-replay f earlier cells (o ∷ os) =
    let rest = sum-replay f (earlier ++ o ∷ []) (put o earlier cells) os in
    omega (arith, rest, sum-put f o earlier cells, sum_by-cons (sum_put f) o os)

sum-put_by : {A : Type 0} (less : A → A → Bool) (f : A → ℕ) (x : A) (ys : List A) → sum_by f (put_by less x ys) ≡ f x + sum_by f ys
unfolding put_by
sum-put_by less f x [] = sum_by-cons f x []
sum-put_by less f x (y ∷ ys) = elim (cases_Bool (less x y)) [
  | inl e ↦ rw e (sum_by-cons f x (y ∷ ys))
  | inr e ↦
      let rest = sum-put_by less f x ys in rw e (omega (arith, rest, sum_by-cons f y (put_by less x ys), sum_by-cons f y ys))
]

sum-sort_by : {A : Type 0} (less : A → A → Bool) (f : A → ℕ) (xs : List A) → sum_by f (sort_by less xs) ≡ sum_by f xs
unfolding sort_by
sum-sort_by less f [] = refl
sum-sort_by less f (x ∷ xs) =
    let rest = sum-sort_by less f xs in omega (arith, sum-put_by less f x (sort_by less xs), rest, sum_by-cons f x xs)

-- the sum over the cells of a history's replay is the sum over what its inserts put
pub sum-replay_of : (f : Cell → ℕ) (h : List OpData) → sum_by f (replay_of h) ≡ sum_by (sum_put f) (insertions_in h)
sum-replay_of f h =
    let none : sum_by f [] + sum_by (sum_put f) (fixed_order h) ≡ sum_by (sum_put f) (fixed_order h) = omega arith in
    sum-replay f [] [] (fixed_order h) ∙ (none ∙ sum-sort_by is_earlier (sum_put f) (insertions_in h))
