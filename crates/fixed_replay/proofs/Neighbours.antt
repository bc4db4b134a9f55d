-- How an earlier insert narrows a gap: where all its cells lie in it, the last or the first one becomes a neighbour; where none
-- does, the gap stays.
use Rattle.std.proofs.Common.{◌≡◌, ℕ, zero, suc, ◌+◌, ◌==◌, Bool, true, false, ◌||◌, List, [], ◌∷◌, ◌++◌, filter, length, if◌then◌else◌, ◌⊎◌, inl, inr, refl, ap, sym, ◌∙◌, subst, arith}
use Rattle.std.proofs.lemmas.Bool.{cases_Bool}
use Rattle.std.specs.List.{list_any}
use Rattle.op_name.specs.NameData.{NameData}
use Rattle.op_name.proofs.CallerLemmas.{number_order}
use Rattle.context_diff.specs.Gaps.{Gap, until, onward, through, beyond, narrow}
use Rattle.context_diff.specs.Replays.{Insertion, Cell, run_of, of_name, first_of, last_of, narrow_over}
use Rattle.transform_rec.specs.Lists.{IsIn}
use Rattle.transform_rec.proofs.CallerLemmas.{filter_in, length-count}
use Rattle.fixed_replay.proofs.Elements.{in_any, not_both}
use Rattle.fixed_replay.proofs.Counts.{any_count, count_any}
use Rattle.fixed_replay.proofs.Stretches.{narrow_none}

-- the first of some cells of an insert
record IsFront (n : NameData) (c : Cell) (cs : List Cell) (first k : ℕ) : Type 0 where
  left : ℕ
  many : k ≡ suc left
  here : c ≡ (n, first)
  behind : cs ≡ run_of n (suc first) left

front : (n : NameData) (c : Cell) (cs : List Cell) (first k : ℕ) → c ∷ cs ≡ run_of n first k → IsFront n c cs first k
front n c cs first zero e = absurd (cc)
front n c cs first (suc k) e = record { left = k; many = refl; here = head e; behind = tail e }
  where
    head : c ∷ cs ≡ (n, first) ∷ run_of n (suc first) k → c ≡ (n, first)
    head is = cc

    tail : c ∷ cs ≡ (n, first) ∷ run_of n (suc first) k → cs ≡ run_of n (suc first) k
    tail is = cc

-- ---- the first cell

any_first : (n : NameData) (cs : List Cell) (k : ℕ) → filter (of_name n) cs ≡ run_of n 0 k
    → list_any (first_of n) cs ≡ list_any (of_name n) cs
any_first n [] k e = refl
any_first n (c ∷ cs) k e = elim (cases_Bool (of_name n c)) [
  | inl h ↦ let f = front n c (filter (of_name n) cs) 0 k (rw h at e) in
      let at : (c.1 == 0) ≡ true = ap (λ (d : Cell). d.1 == 0) f.here in rw (h, at) refl
  | inr h ↦ rw h (any_first n cs k (rw h at e))
]

until_first : (n : NameData) (cs : List Cell) (k : ℕ) → filter (of_name n) cs ≡ run_of n 0 k → until (of_name n) cs ≡ until (first_of n) cs
unfolding until
until_first n [] k e = refl
until_first n (c ∷ cs) k e = elim (cases_Bool (of_name n c)) [
  | inl h ↦ let f = front n c (filter (of_name n) cs) 0 k (rw h at e) in
      let at : (c.1 == 0) ≡ true = ap (λ (d : Cell). d.1 == 0) f.here in rw (h, at) refl
  | inr h ↦ rw h (ap (λ (ds : List Cell). c ∷ ds) (until_first n cs k (rw h at e)))
]

onward_first : (n : NameData) (cs : List Cell) (k : ℕ) → filter (of_name n) cs ≡ run_of n 0 k
    → onward (of_name n) cs ≡ onward (first_of n) cs
unfolding onward
onward_first n [] k e = refl
onward_first n (c ∷ cs) k e = elim (cases_Bool (of_name n c)) [
  | inl h ↦ let f = front n c (filter (of_name n) cs) 0 k (rw h at e) in
      let at : (c.1 == 0) ≡ true = ap (λ (d : Cell). d.1 == 0) f.here in rw (h, at) refl
  | inr h ↦ rw h (onward_first n cs k (rw h at e))
]

-- ---- the last cell

-- of the insert the list has the last cells, in their order
record HasLast (x : Insertion) (cs : List Cell) : Type 0 where
  first : ℕ
  many : ℕ
  is : filter (of_name x.name) cs ≡ run_of x.name first many
  end : first + many ≡ x.len

behind_front : (x : Insertion) (c : Cell) (cs : List Cell) → HasLast x (c ∷ cs) → HasLast x cs
behind_front x c cs l = elim (cases_Bool (of_name x.name c)) [
  | inl h ↦ let f = front x.name c (filter (of_name x.name) cs) l.first l.many (rw h at l.is) in
      record { first = suc l.first; many = f.left; is = f.behind; end = omega (arith, l.end, f.many) }
  | inr h ↦ record { first = l.first; many = l.many; is = rw h at l.is; end = l.end }
]

-- where cells of the insert stand, some stand
any_kept : (n : NameData) (first k : ℕ) (cs : List Cell) → filter (of_name n) cs ≡ run_of n first (suc k) → list_any (of_name n) cs ≡ true
any_kept n first k cs e =
    let r = filter_in (of_name n) (n, first) cs (subst (λ (ds : List Cell). IsIn (n, first) ds) (sym e) (inl refl)) in
    in_any (of_name n) (n, first) cs r.0 r.1

or_right : (a b : Bool) → b ≡ true → (a || b) ≡ true
or_right true b h = refl
or_right false b h = h

-- a cell of the insert is its last one, or that stands behind it
last_behind : (x : Insertion) (c : Cell) (cs : List Cell) (first left : ℕ) → c ≡ (x.name, first) → suc first + left ≡ x.len
    → filter (of_name x.name) cs ≡ run_of x.name (suc first) left → list_any (last_of x) cs ≡ list_any (of_name x.name) cs
    → ((c.1 + 1 == x.len) || list_any (last_of x) cs) ≡ true
last_behind x c cs first zero here end is same =
    let offset : c.1 ≡ first = ap (λ (d : Cell). d.1) here in
    let long : c.1 + 1 ≡ x.len = omega (arith, offset, end) in
    let last : (c.1 + 1 == x.len) ≡ true = subst (λ k. (c.1 + 1 == k) ≡ true) long (number_order.itself (c.1 + 1)) in
    rw last refl
last_behind x c cs first (suc k) here end is same =
    or_right (c.1 + 1 == x.len) (list_any (last_of x) cs) (same ∙ any_kept x.name (suc first) k cs is)

any_last : (x : Insertion) (cs : List Cell) → HasLast x cs → list_any (last_of x) cs ≡ list_any (of_name x.name) cs
any_last x [] l = refl
any_last x (c ∷ cs) l =
    let rest = any_last x cs (behind_front x c cs l) in
    elim (cases_Bool (of_name x.name c)) [
      | inl h ↦ let f = front x.name c (filter (of_name x.name) cs) l.first l.many (rw h at l.is) in
          rw h (last_behind x c cs l.first f.left f.here (omega (arith, l.end, f.many)) f.behind rest)
      | inr h ↦ rw h rest
    ]

through_last : (x : Insertion) (cs : List Cell) → HasLast x cs → through (of_name x.name) cs ≡ through (last_of x) cs
unfolding through
through_last x [] l = refl
through_last x (c ∷ cs) l =
    let rest = through_last x cs (behind_front x c cs l) in
    let same : (last_of x c || list_any (last_of x) cs) ≡ (of_name x.name c || list_any (of_name x.name) cs) = any_last x (c ∷ cs) l in
    elim (cases_Bool (of_name x.name c || list_any (of_name x.name) cs)) [
      | inl h ↦ let k : (last_of x c || list_any (last_of x) cs) ≡ true = same ∙ h in rw (h, k) (ap (λ (ds : List Cell). c ∷ ds) rest)
      | inr h ↦ let k : (last_of x c || list_any (last_of x) cs) ≡ false = same ∙ h in rw (h, k) refl
    ]

beyond_last : (x : Insertion) (cs : List Cell) → HasLast x cs → beyond (of_name x.name) cs ≡ beyond (last_of x) cs
unfolding beyond
beyond_last x [] l = refl
beyond_last x (c ∷ cs) l =
    let rest = beyond_last x cs (behind_front x c cs l) in
    let same : (last_of x c || list_any (last_of x) cs) ≡ (of_name x.name c || list_any (of_name x.name) cs) = any_last x (c ∷ cs) l in
    elim (cases_Bool (of_name x.name c || list_any (of_name x.name) cs)) [
      | inl h ↦ let k : (last_of x c || list_any (last_of x) cs) ≡ true = same ∙ h in rw (h, k) rest
      | inr h ↦ let k : (last_of x c || list_any (last_of x) cs) ≡ false = same ∙ h in rw (h, k) refl
    ]

-- ---- the gap

-- where all cells of the insert lie in the gap, its last and its first one do
narrow_by_all : (left : Bool) (x : Insertion) (g : Gap Cell) → filter (of_name x.name) g.between ≡ run_of x.name 0 x.len
    → narrow left (of_name x.name) g ≡ (if left then narrow true (last_of x) g else narrow false (first_of x.name) g)
narrow_by_all true x g e =
    let l : HasLast x g.between = record { first = 0; many = x.len; is = e; end = omega arith } in
    λ i. record { before = g.before ++ through_last x g.between l i; between = beyond_last x g.between l i; behind = g.behind }
narrow_by_all false x g e =
    let u = until_first x.name g.between x.len e in
    let o = onward_first x.name g.between x.len e in
    λ i. record { before = g.before; between = u i; behind = o i ++ g.behind }

narrow_of : (left : Bool) (x : Insertion) (g : Gap Cell) (k : ℕ) → filter (of_name x.name) g.between ≡ run_of x.name 0 k
    → (list_any (first_of x.name) g.between ≡ true
    → narrow left (of_name x.name) g ≡ (if left then narrow true (last_of x) g else narrow false (first_of x.name) g))
    → narrow left (of_name x.name) g ≡ narrow_over left x g
narrow_of left x g k e there = elim (cases_Bool (list_any (first_of x.name) g.between)) [
  | inl h ↦ rw h (there h)
  | inr h ↦ rw h (narrow_none left (of_name x.name) g (count_any (of_name x.name) g.between (sym (any_first x.name g.between k e) ∙ h)))
]

-- an insert with all its cells in the gap, or none, narrows it as the cells of its name do
pub narrow_by_ends : (left : Bool) (x : Insertion) (g : Gap Cell)
    → (filter (of_name x.name) g.between ≡ []) ⊎ (filter (of_name x.name) g.between ≡ run_of x.name 0 x.len)
    → narrow left (of_name x.name) g ≡ narrow_over left x g
narrow_by_ends left x g (inl none) =
    narrow_of left x g 0 none (λ h. not_both h (any_first x.name g.between 0 none
    ∙ any_count (of_name x.name) g.between (sym (length-count (of_name x.name) g.between) ∙ ap length none)))
narrow_by_ends left x g (inr all) = narrow_of left x g x.len all (λ h. narrow_by_all left x g all)
