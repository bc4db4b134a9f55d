-- How many cells of a replay pass a test of their inserts' names.
use Rattle.std.proofs.Common.{◌≡◌, ℕ, zero, suc, ◌+◌, Bool, true, false, List, [], ◌∷◌, ◌++◌, length, if◌then◌else◌, inl, inr, refl, ap, ◌∙◌, arith}
use Rattle.std.proofs.lemmas.Bool.{cases_Bool}
use Rattle.op_name.specs.NameData.{NameData}
use Rattle.op_name.specs.declared.member.Member.TheVariants.{Original}
use Rattle.context_vector.specs.Contexts.{ContextData, has}
use Rattle.context_diff.specs.Operations.{OpData, inserting, deleting, undoing, member_of}
use Rattle.context_diff.specs.Histories.{cells_in}
use Rattle.context_diff.specs.Replays.{Insertion, Cell, insertions_in, is_earlier, fixed_order, put_by, sort_by, run_of, cells_from, gap_of, put, replay, replay_of}
use Rattle.ttf_form.specs.Families.{total_by}
use Rattle.transform_rec.proofs.CallerLemmas.{count, count-append, length-count}
use Rattle.fixed_replay.proofs.CallerLemmas.{gap_of_whole}
use Rattle.char_marks.specs.Laws.{SeenCellsAreCounted}

-- how many of the cells that an insert puts pass
abbrev put_count : (Cell → Bool) → Insertion → ℕ
put_count p o = count p (cells_from o)

count-put : (p : Cell → Bool) (o : Insertion) (earlier : List Insertion) (cells : List Cell)
    → count p (put o earlier cells) ≡ put_count p o + count p cells
count-put p o earlier cells =
    let g = gap_of o earlier cells in
    let whole : count p (g.before ++ (g.between ++ g.behind)) ≡ count p cells = ap (count p) (gap_of_whole o earlier cells) in
    let new = cells_from o in
    omega (
      arith,
      whole,
      count-append p g.before (g.between ++ (new ++ g.behind)),
      count-append p g.between (new ++ g.behind),
      count-append p new g.behind,
      count-append p g.before (g.between ++ g.behind),
      count-append p g.between g.behind,
    )

count-replay : (p : Cell → Bool) (os earlier : List Insertion) (cells : List Cell)
    → count p (replay earlier cells os) ≡ total_by (put_count p) os + count p cells
unfolding replay
count-replay p [] earlier cells = omega arith
count-replay p (o ∷ os) earlier cells =
    omega (arith, count-replay p os (earlier ++ o ∷ []) (put o earlier cells), count-put p o earlier cells)

-- the order of the inserts plays no part
total-put_by : {A : Type 0} (f : A → ℕ) (less : A → A → Bool) (x : A) (xs : List A)
    → total_by f (put_by less x xs) ≡ f x + total_by f xs
unfolding put_by
total-put_by f less x [] = refl
total-put_by f less x (y ∷ ys) = elim (cases_Bool (less x y)) [
  | inl e ↦ rw e refl
  | inr e ↦ let rest = total-put_by f less x ys in rw e (omega arith)
]

total-sort_by : {A : Type 0} (f : A → ℕ) (less : A → A → Bool) (xs : List A) → total_by f (sort_by less xs) ≡ total_by f xs
unfolding sort_by
total-sort_by f less [] = refl
total-sort_by f less (x ∷ xs) = omega (arith, total-put_by f less x (sort_by less xs), total-sort_by f less xs)

-- the cells of an insert all pass, or none does
abbrev is_of : ContextData → Cell → Bool
is_of c d = has c (Original d.0)

count-run : (c : ContextData) (n : NameData) (first k : ℕ) → count (is_of c) (run_of n first k) ≡ (if has c (Original n) then k else 0)
count-run c n first zero = elim (cases_Bool (has c (Original n))) [ inl e ↦ rw e refl | inr e ↦ rw e refl ]
count-run c n first (suc k) =
    let rest = count-run c n (suc first) k in
    elim (cases_Bool (has c (Original n))) [
      | inl e ↦ let known : count (is_of c) (run_of n (suc first) k) ≡ k =
          rest ∙ ap (λ b. if b then k else 0) e in rw e (omega (arith, known))
      | inr e ↦ let none : count (is_of c) (run_of n (suc first) k) ≡ 0 =
          rest ∙ ap (λ b. if b then k else 0) e in rw e (omega (arith, none))
    ]

abbrev no_cells : ℕ
no_cells = 0

nothing_chosen : (b : Bool) → (if b then no_cells else no_cells) ≡ no_cells
nothing_chosen true = refl
nothing_chosen false = refl

-- the cells of the inserts of a history
put_in_all : (h : List OpData) (c : ContextData) → total_by (put_count (is_of c)) (insertions_in h) ≡ cells_in h c
put_in_all [] c = refl
put_in_all (inserting n p text k ∷ os) c = omega (arith, count-run c n 0 (length text), put_in_all os c)
put_in_all (deleting n p k ∷ os) c = omega (arith, nothing_chosen (has c (member_of (deleting n p k))), put_in_all os c)
put_in_all (undoing a t g k ∷ os) c = omega (arith, nothing_chosen (has c (member_of (undoing a t g k))), put_in_all os c)

pub seen_counted : SeenCellsAreCounted
seen_counted h m =
    let c = m.context in
    omega (
      arith,
      length-count (is_of c) (replay_of h),
      count-replay (is_of c) (fixed_order h) [] [],
      total-sort_by (put_count (is_of c)) is_earlier (insertions_in h),
      put_in_all h c,
    )
