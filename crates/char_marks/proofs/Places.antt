-- Which cells a mark covers, by the places of its end cells among all cells.
use Rattle.std.proofs.Common.{◌≡◌, ℕ, zero, suc, ◌+◌, ◌-◌, ◌<◌, ◌≤◌, Bool, true, false, if◌then◌else◌, List, [], ◌∷◌, Option, Some, None, length, filter, take, drop, slice_get, inl, inr, refl, ap, sym, ◌∙◌, subst, arith}
use Rattle.std.specs.Prelude.{◌&&◌, nat_le, ◌==◌}
use Rattle.std.specs.List.{list_any}
use Rattle.std.specs.Cmp.{both_ways as same_bool}
use Rattle.std.proofs.lemmas.Bool.{cases_Bool, cases_lt, and_parts, and_from, leb-true, le-leb}
use Rattle.std.proofs.lemmas.Bool.Decides.{nat_tests}
use Rattle.op_name.specs.NameData.{name_eq}
use Rattle.op_name.proofs.CallerLemmas.{name_itself, name_same}
use Rattle.context_diff.specs.Replays.{Cell}
use Rattle.ttf_form.specs.Families.{IsIn}
use Rattle.transform_rec.proofs.CallerLemmas.{count, filter_in}
use Rattle.fixed_replay.proofs.CallerLemmas.{any_in, in_any}
use Rattle.char_marks.specs.Covered.{is_cell}

-- ---- cells as elements of lists

pub same_cell : (c d : Cell) → is_cell c d ≡ true → d ≡ c
same_cell c d e =
    let both = and_parts (name_eq d.0 c.0) (d.1 == c.1) e in
    let name = name_same d.0 c.0 both.0 in
    let offset : d.1 ≡ c.1 = let test = both.1 in grind (arith, nat_tests) in
    λ i. (name i, offset i)

pub itself : (c : Cell) → is_cell c c ≡ true
itself c = rw (name_itself c.0) (grind (arith, nat_tests))

none_some : {A : Type 0} (x : A) → ◌≡◌ {A = Option A} None (Some x) → ⊥
none_some x e = cc

some_same : {A : Type 0} (x y : A) → ◌≡◌ {A = Option A} (Some x) (Some y) → x ≡ y
some_same x y e = cc

-- an element stands at a place
pub place_of : {A : Type 0} (x : A) (xs : List A) → IsIn x xs → (i : ℕ) × (slice_get xs i ≡ Some x)
place_of {A} x [] i = absurd i
place_of {A} x (y ∷ ys) (inl e) = (0, ap (λ (z : A). Some z) (sym e))
place_of {A} x (y ∷ ys) (inr i) = let r = place_of x ys i in (suc r.0, r.1)

pub at_place : {A : Type 0} (xs : List A) (i : ℕ) (x : A) → slice_get xs i ≡ Some x → IsIn x xs
at_place [] i x e = absurd (none_some x e)
at_place (y ∷ ys) zero x e = inl (sym (some_same y x e))
at_place (y ∷ ys) (suc i) x e = inr (at_place ys i x e)

-- a part of a list, and the list
pub part_at : {A : Type 0} (xs : List A) (s n i : ℕ) (x : A) → slice_get (take n (drop s xs)) i ≡ Some x
    → (i < n) × (slice_get xs (s + i) ≡ Some x)
part_at [] zero zero i x e = absurd (none_some x e)
part_at [] zero (suc n) i x e = absurd (none_some x e)
part_at [] (suc s) zero i x e = absurd (none_some x e)
part_at [] (suc s) (suc n) i x e = absurd (none_some x e)
part_at (y ∷ ys) zero zero i x e = absurd (none_some x e)
part_at {A} (y ∷ ys) zero (suc n) zero x e = (omega arith, e)
part_at {A} (y ∷ ys) zero (suc n) (suc i) x e =
    let r = part_at ys zero n i x (tail_part ys n i x e) in
    let same : zero + suc i ≡ suc (zero + i) = omega arith in
    (omega (arith, r.0), subst (λ (k : ℕ). slice_get (y ∷ ys) k ≡ Some x) (sym same) r.1)
  where
    tail_part : (zs : List A) (m j : ℕ) (z : A) → slice_get (take m zs) j ≡ Some z → slice_get (take m (drop zero zs)) j ≡ Some z
    tail_part [] m j z f = f
    tail_part (w ∷ ws) m j z f = f
part_at (y ∷ ys) (suc s) n i x e =
    let r = part_at ys s n i x e in
    let same : suc s + i ≡ suc (s + i) = omega arith in
    (r.0, subst (λ (k : ℕ). slice_get (y ∷ ys) k ≡ Some x) (sym same) r.1)

pub at_part : {A : Type 0} (xs : List A) (s n i : ℕ) (x : A) → i < n → slice_get xs (s + i) ≡ Some x
    → slice_get (take n (drop s xs)) i ≡ Some x
at_part [] s n i x lt e = absurd (none_some x e)
at_part (y ∷ ys) zero zero i x lt e = absurd (omega (arith, lt))
at_part (y ∷ ys) zero (suc n) zero x lt e = e
at_part {A} (y ∷ ys) zero (suc n) (suc i) x lt e =
    let same : zero + suc i ≡ suc (zero + i) = omega arith in
    whole ys n i x (at_part ys zero n i x (omega (arith, lt)) (subst (λ (k : ℕ). slice_get (y ∷ ys) k ≡ Some x) same e))
  where
    whole : (zs : List A) (m j : ℕ) (z : A) → slice_get (take m (drop zero zs)) j ≡ Some z → slice_get (take m zs) j ≡ Some z
    whole [] m j z f = f
    whole (w ∷ ws) m j z f = f
at_part (y ∷ ys) (suc s) n i x lt e =
    let same : suc s + i ≡ suc (s + i) = omega arith in
    at_part ys s n i x lt (subst (λ (k : ℕ). slice_get (y ∷ ys) k ≡ Some x) same e)

-- ---- those that a test keeps

-- how many are kept of those in front of a place
abbrev kept_before : {A : Type 0} → (A → Bool) → List A → ℕ → ℕ
kept_before p xs i = length (filter p (take i xs))

module _ {A : Type 0} (p : A → Bool) where
  keeps : (x : A) (xs : List A) → p x ≡ true → filter p (x ∷ xs) ≡ x ∷ filter p xs
  keeps x xs e = ap (λ b. if b then x ∷ filter p xs else filter p xs) e

  drops : (x : A) (xs : List A) → p x ≡ false → filter p (x ∷ xs) ≡ filter p xs
  drops x xs e = ap (λ b. if b then x ∷ filter p xs else filter p xs) e

  pub kept_at : (xs : List A) (i : ℕ) (x : A) → slice_get xs i ≡ Some x → p x ≡ true
      → slice_get (filter p xs) (kept_before p xs i) ≡ Some x
  kept_at [] i x e k = absurd (none_some x e)
  kept_at (y ∷ ys) zero x e k =
      let is = some_same y x e in
      ap (λ (l : List A). slice_get l 0) (keeps y ys (ap p is ∙ k)) ∙ e
  kept_at (y ∷ ys) (suc i) x e k = elim (cases_Bool (p y)) [
    | inl hit ↦ rw hit (kept_at ys i x e k)
    | inr miss ↦ rw miss (kept_at ys i x e k)
  ]

  rises : (xs : List A) (i j : ℕ) → i ≤ j → kept_before p xs i ≤ kept_before p xs j
  rises [] zero zero le = omega arith
  rises [] zero (suc j) le = omega arith
  rises [] (suc i) zero le = absurd (omega (arith, le))
  rises [] (suc i) (suc j) le = omega arith
  rises (y ∷ ys) zero j le = omega arith
  rises (y ∷ ys) (suc i) zero le = absurd (omega (arith, le))
  rises (y ∷ ys) (suc i) (suc j) le =
      let rest = rises ys i j (omega (arith, le)) in
      elim (cases_Bool (p y)) [ inl hit ↦ rw hit (omega (arith, rest)) | inr miss ↦ rw miss rest ]

  pub rises_past : (xs : List A) (i j : ℕ) (x : A) → slice_get xs i ≡ Some x → p x ≡ true → i < j
      → kept_before p xs i < kept_before p xs j
  rises_past [] i j x e k lt = absurd (none_some x e)
  rises_past (y ∷ ys) i zero x e k lt = absurd (omega (arith, lt))
  rises_past (y ∷ ys) zero (suc j) x e k lt =
      let hit : p y ≡ true = ap p (some_same y x e) ∙ k in
      let long = ap (λ (l : List A). length l) (keeps y (take j ys) hit) in
      omega (arith, long)
  rises_past (y ∷ ys) (suc i) (suc j) x e k lt =
      let rest = rises_past ys i j x e k (omega (arith, lt)) in
      elim (cases_Bool (p y)) [ inl hit ↦ rw hit (omega (arith, rest)) | inr miss ↦ rw miss rest ]

  -- what is kept stands no more often than before
  count_kept : (q : A → Bool) (xs : List A) → count q (filter p xs) ≤ count q xs
  count_kept q [] = omega arith
  count_kept q (y ∷ ys) =
      let rest = count_kept q ys in
      elim (cases_Bool (p y)) [ inl hit ↦ rw hit (omega (arith, rest)) | inr miss ↦ rw miss (omega (arith, rest)) ]

-- ---- a cell that stands once stands at one place

abbrev counts : Bool → ℕ
counts b = if b then 1 else 0

one_if : (b : Bool) → b ≡ true → counts b ≡ 1
one_if b e = ap counts e

counted_at : (c : Cell) (xs : List Cell) (i : ℕ) → slice_get xs i ≡ Some c → 1 ≤ count (is_cell c) xs
counted_at c [] i e = absurd (none_some c e)
counted_at c (d ∷ ds) zero e = omega (arith, one_if (is_cell c d) (ap (is_cell c) (some_same d c e) ∙ itself c))
counted_at c (d ∷ ds) (suc i) e = omega (arith, counted_at c ds i e)

pub one_place : (c : Cell) (xs : List Cell) (i j : ℕ) → count (is_cell c) xs ≤ 1 → slice_get xs i ≡ Some c → slice_get xs j ≡ Some c → i ≡ j
one_place c [] i j once e f = absurd (none_some c e)
one_place c (d ∷ ds) zero zero once e f = refl
one_place c (d ∷ ds) zero (suc j) once e f =
    absurd (omega (arith, once, one_if (is_cell c d) (ap (is_cell c) (some_same d c e) ∙ itself c), counted_at c ds j f))
one_place c (d ∷ ds) (suc i) zero once e f =
    absurd (omega (arith, once, one_if (is_cell c d) (ap (is_cell c) (some_same d c f) ∙ itself c), counted_at c ds i e))
one_place c (d ∷ ds) (suc i) (suc j) once e f = ap suc (one_place c ds i j (omega (arith, once)) e f)

-- ---- the covered cells

-- cells of which each stands once, a test of them, and a part of those that pass
module _ (cells : List Cell) (p : Cell → Bool) (place len : ℕ) (once : (c : Cell) → count (is_cell c) cells ≤ 1) where
  abbrev kept : List Cell
  kept = filter p cells

  abbrev part : List Cell
  part = take len (drop place kept)

  once_kept : (c : Cell) → count (is_cell c) kept ≤ 1
  once_kept c = omega (arith, count_kept p (is_cell c) cells, once c)

  -- where a cell that passes stands among those that do
  at_kept : (c : Cell) (i j : ℕ) → slice_get cells i ≡ Some c → slice_get kept j ≡ Some c
      → (p c ≡ true) × (kept_before p cells i ≡ j)
  at_kept c i j e f =
      let passes = (filter_in p c cells (at_place kept j c f)).1 in
      (passes, one_place c kept (kept_before p cells i) j (once_kept c) (kept_at p cells i c e passes) f)

  module _ (first last : Cell) (from to : ℕ) (first_is : slice_get part 0 ≡ Some first) (last_is : slice_get part (len - 1) ≡ Some last)
      (first_at : slice_get cells from ≡ Some first) (last_at : slice_get cells to ≡ Some last) where
    low : kept_before p cells from ≡ place
    low =
        let r = part_at kept place len 0 first first_is in
        let same : place + 0 ≡ place = omega arith in
        (at_kept first from place first_at (subst (λ (k : ℕ). slice_get kept k ≡ Some first) same r.1)).1

    high : (kept_before p cells to ≡ place + (len - 1)) × (len - 1 < len)
    high =
        let r = part_at kept place len (len - 1) last last_is in
        ((at_kept last to (place + (len - 1)) last_at r.1).1, r.0)

    first_passes : p first ≡ true
    first_passes = (filter_in p first cells (at_place kept (place + 0) first (part_at kept place len 0 first first_is).1)).1

    last_passes : p last ≡ true
    last_passes =
        (filter_in p last cells (at_place kept (place + (len - 1)) last (part_at kept place len (len - 1) last last_is).1)).1

    -- the cell at a place is covered exactly if it passes, and stands between the end cells or is one of them
    pub covered_between : (c : Cell) (i : ℕ) → slice_get cells i ≡ Some c
        → list_any (is_cell c) part ≡ (p c && (nat_le from i && nat_le i to))
    covered_between c i e = same_bool (list_any (is_cell c) part) (p c && (nat_le from i && nat_le i to)) forth back
      where
        forth : list_any (is_cell c) part ≡ true → (p c && (nat_le from i && nat_le i to)) ≡ true
        forth hit =
            let found = any_in (is_cell c) part hit in
            let at = place_of found.0 part found.1 in
            let is : slice_get part at.0 ≡ Some c = at.1 ∙ ap (λ (d : Cell). Some d) (same_cell c found.0 found.2) in
            let r = part_at kept place len at.0 c is in
            let mine = at_kept c i (place + at.0) e r.1 in
            let begin : from ≤ i = elim (cases_lt i from) [
              | inl lt ↦ absurd (omega (arith, rises_past p cells i from c e mine.0 lt, low, mine.1))
              | inr ge ↦ ge
            ] in
            let end : i ≤ to = elim (cases_lt to i) [
              | inl lt ↦ absurd (omega (arith, rises_past p cells to i last last_at last_passes lt, high.0, high.1, mine.1, r.0))
              | inr ge ↦ ge
            ] in
            and_from (p c) (nat_le from i && nat_le i to) mine.0
            (and_from (nat_le from i) (nat_le i to) (le-leb from i begin) (le-leb i to end))

        back : (p c && (nat_le from i && nat_le i to)) ≡ true → list_any (is_cell c) part ≡ true
        back hit =
            let both = and_parts (p c) (nat_le from i && nat_le i to) hit in
            let ends = and_parts (nat_le from i) (nat_le i to) both.1 in
            let begin = rises p cells from i (leb-true from i ends.0) in
            let end = rises p cells i to (leb-true i to ends.1) in
            let k = kept_before p cells i in
            let offset : ℕ = k - place in
            let same : k ≡ place + offset = omega (arith, begin, low) in
            let within : offset < len = omega (arith, end, high.0, high.1, begin, low) in
            let at : slice_get kept (place + offset) ≡ Some c =
            subst (λ (n : ℕ). slice_get kept n ≡ Some c) same (kept_at p cells i c e both.0) in
            in_any (is_cell c) c part (at_place part offset c (at_part kept place len offset c within at)) (itself c)
