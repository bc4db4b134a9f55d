-- Each cell of an insert stands once in the replay of a valid history, and no other cell does.
use Rattle.std.proofs.Common.{◌≡◌, ◌≢◌, ℕ, zero, suc, ◌+◌, ◌<◌, ◌≤◌, Bool, true, false, ◌&&◌, ◌||◌, if◌then◌else◌, nat_lt, ◌==◌, List, [], ◌∷◌, ◌++◌, Option, Some, None, length, filter, slice_get, inl, inr, refl, sym, ap, ◌∙◌, subst, arith, true≢false, le-ltb, lt-ltb}
use Rattle.std.specs.Option.{option_map_or}
use Rattle.std.proofs.lemmas.Bool.{cases_Bool, cases_lt, and_parts, false_from_ne_true}
use Rattle.std.proofs.lemmas.Bool.Decides.{nat_tests}
use Rattle.op_name.specs.NameData.{NameData, name_eq}
use Rattle.op_name.specs.declared.member.Member.{Member}
use Rattle.op_name.specs.declared.member.Member.TheVariants.{Original}
use Rattle.op_name.specs.Members.{member_eq}
use Rattle.op_name.proofs.CallerLemmas.{member_same, name_itself, name_same}
use Rattle.context_diff.specs.Operations.{OpData, inserting, deleting, undoing, member_of, is_original, cells_put}
use Rattle.context_diff.specs.Histories.{members_in, is_known, IsValid}
use Rattle.context_diff.specs.Replays.{Insertion, Cell, insertions_in, is_earlier, fixed_order, put_by, sort_by, run_of, cells_from, gap_of, put, replay, replay_of}
use Rattle.ttf_form.specs.Families.{IsIn, total_by}
use Rattle.transform_rec.proofs.CallerLemmas.{count, count-append}
use Rattle.fixed_replay.specs.Originals.{AreTold, AreToldFrom, AreToldApart}
use Rattle.fixed_replay.proofs.CallerLemmas.{gap_of_whole, told_apart}
use Rattle.site_anchors.specs.Anchors.{is_same, puts, has_cell}
use Rattle.site_anchors.specs.Laws.{EachCellStandsOnce}

-- 1 for a test that passes, 0 for one that fails
abbrev pub one_if : Bool → ℕ
one_if b = if b then 1 else 0

pub one_hit : (b : Bool) → b ≡ true → one_if b ≡ 1
one_hit b e = ap one_if e

pub one_miss : (b : Bool) → b ≡ false → one_if b ≡ 0
one_miss b e = ap one_if e

-- ---- how often a cell stands in a replay

-- how many of the cells that an insert puts pass
abbrev put_count : (Cell → Bool) → Insertion → ℕ
put_count p o = count p (cells_from o)

-- an insert adds its cells, and the others stay
count-put : (p : Cell → Bool) (o : Insertion) (earlier : List Insertion) (cells : List Cell)
    → count p (put o earlier cells) ≡ put_count p o + count p cells
count-put p o earlier cells =
    let g = gap_of o earlier cells in
    let whole : count p (g.before ++ (g.between ++ g.behind)) ≡ count p cells = ap (count p) (gap_of_whole o earlier cells) in
    let new = cells_from o in
    omega (
      arith,
      whole,
      count-append p g.before (g.between ++ (new ++ g.behind)),
      count-append p g.between (new ++ g.behind),
      count-append p new g.behind,
      count-append p g.before (g.between ++ g.behind),
      count-append p g.between g.behind,
    )

count-replay : (p : Cell → Bool) (os earlier : List Insertion) (cells : List Cell)
    → count p (replay earlier cells os) ≡ total_by (put_count p) os + count p cells
unfolding replay
count-replay p [] earlier cells = omega arith
count-replay p (o ∷ os) earlier cells =
    omega (arith, count-replay p os (earlier ++ o ∷ []) (put o earlier cells), count-put p o earlier cells)

-- the order of the inserts plays no part
total-put_by : {A : Type 0} (f : A → ℕ) (less : A → A → Bool) (x : A) (xs : List A)
    → total_by f (put_by less x xs) ≡ f x + total_by f xs
unfolding put_by
total-put_by f less x [] = refl
total-put_by f less x (y ∷ ys) = elim (cases_Bool (less x y)) [
  | inl e ↦ rw e refl
  | inr e ↦ let rest = total-put_by f less x ys in rw e (omega arith)
]

total-sort_by : {A : Type 0} (f : A → ℕ) (less : A → A → Bool) (xs : List A) → total_by f (sort_by less xs) ≡ total_by f xs
unfolding sort_by
total-sort_by f less [] = refl
total-sort_by f less (x ∷ xs) = omega (arith, total-put_by f less x (sort_by less xs), total-sort_by f less xs)

-- ---- how often an insert has it

run_other : (c : Cell) (n : NameData) (first k : ℕ) → name_eq n c.0 ≡ false → count (is_same c) (run_of n first k) ≡ 0
run_other c n first zero e = refl
run_other c n first (suc k) e = rw e (omega (arith, run_other c n (suc first) k e))

run_past : (c : Cell) (n : NameData) (first k : ℕ) → c.1 < first → count (is_same c) (run_of n first k) ≡ 0
run_past c n first zero lt = refl
run_past c n first (suc k) lt =
    let rest = run_past c n (suc first) k (omega arith) in
    grind (arith, nat_tests)

run_same : (c : Cell) (n : NameData) (first k : ℕ) → name_eq n c.0 ≡ true → first ≤ c.1
    → count (is_same c) (run_of n first k) ≡ (if nat_lt c.1 (first + k) then 1 else 0)
run_same c n first zero e le = grind (arith, nat_tests)
run_same c n first (suc k) e le = elim (cases_lt first c.1) [
  | inl lt ↦
      let rest = run_same c n (suc first) k e (omega arith) in
      grind (arith, nat_tests)
  | inr ge ↦
      let rest = run_past c n (suc first) k (omega arith) in
      grind (arith, nat_tests)
]

-- ---- how often the inserts of a history have it

told_from : (o : OpData) (os : List OpData) → AreToldFrom o os → (p : OpData) → IsIn p os → AreTold o p
told_from o [] t p i = absurd i
told_from o (q ∷ qs) t p (inl e) = subst (λ (r : OpData). AreTold o r) (sym e) t.0
told_from o (q ∷ qs) t p (inr i) = told_from o qs t.1 p i

-- an operation of no cell puts none
puts_none : (c : Cell) (o : OpData) → cells_put o ≡ 0 → puts c o ≡ false
puts_none c o e = grind (arith, nat_tests)

-- an operation of another name puts none
puts_other : (c : Cell) (o : OpData) → member_of o ≢ Original c.0 → puts c o ≡ false
puts_other c o other =
    rw (false_from_ne_true (member_eq (member_of o) (Original c.0)) (λ e. other (member_same (member_of o) (Original c.0) e))) refl

-- no operation of the list has the name
abbrev LacksOriginal : List OpData → NameData → Type 0
LacksOriginal h n = (o : OpData) → IsIn o h → member_of o ≢ Original n

has_none : (h : List OpData) (c : Cell) → LacksOriginal h c.0 → has_cell h c ≡ false
has_none [] c none = refl
has_none (o ∷ os) c none = rw (puts_other c o (none o (inl refl))) (has_none os c (λ p i. none p (inr i)))

total_none : (h : List OpData) (c : Cell) → LacksOriginal h c.0 → total_by (put_count (is_same c)) (insertions_in h) ≡ 0
total_none [] c none = refl
total_none (inserting n p text k ∷ os) c none =
    let other : name_eq n c.0 ≡ false =
    false_from_ne_true (name_eq n c.0)
    (λ e. none (inserting n p text k) (inl refl) (ap (λ (m : NameData). Original m) (name_same n c.0 e))) in
    omega (arith, run_other c n 0 (length text) other, total_none os c (λ o i. none o (inr i)))
total_none (deleting n p k ∷ os) c none = total_none os c (λ o i. none o (inr i))
total_none (undoing a t g k ∷ os) c none = total_none os c (λ o i. none o (inr i))

original_is : (o : OpData) (n : NameData) → member_of o ≡ Original n → is_original o ≡ true
original_is (inserting m p text k) n e = refl
original_is (deleting m p k) n e = refl
original_is (undoing a t g k) n e = absurd (cc)

-- what is told from an operation has another name
told_lacks : (o : OpData) (os : List OpData) (n : NameData) → AreToldFrom o os → member_of o ≡ Original n → LacksOriginal os n
told_lacks o os n told is p i e =
    (told_from o os told p i).names (original_is o n is) (original_is p n e) (is ∙ sym e)

-- the operation of its name decides whether a history has a cell
pub has_decided : (o : OpData) (os : List OpData) (c : Cell) → AreToldFrom o os → member_of o ≡ Original c.0
    → has_cell (o ∷ os) c ≡ nat_lt c.1 (cells_put o)
has_decided o os c told is =
    let here : member_eq (member_of o) (Original c.0) ≡ true =
    ap (λ m. member_eq m (Original c.0)) is ∙ name_itself c.0 in
    let rest = has_none os c (told_lacks o os c.0 told is) in
    rw (here, rest) (or_false (nat_lt c.1 (cells_put o)))
  where
    or_false : (b : Bool) → (b || false) ≡ b
    or_false true = refl
    or_false false = refl

count_inserted : (h : List OpData) (c : Cell) → AreToldApart h
    → total_by (put_count (is_same c)) (insertions_in h) ≡ (if has_cell h c then 1 else 0)
count_inserted [] c told = refl
count_inserted (inserting n p text k ∷ os) c told = elim (cases_Bool (name_eq n c.0)) [
  | inl e ↦
      let o = inserting n p text k in
      let is : member_of o ≡ Original c.0 = ap (λ (m : NameData). Original m) (name_same n c.0 e) in
      let here = run_same c n 0 (length text) e (omega arith) in
      let none = total_none os c (told_lacks o os c.0 told.0 is) in
      let size : 0 + length text ≡ length text = omega arith in
      let tested : one_if (nat_lt c.1 (0 + length text)) ≡ one_if (has_cell (o ∷ os) c) =
      ap (λ (m : ℕ). one_if (nat_lt c.1 m)) size ∙ ap one_if (sym (has_decided o os c told.0 is)) in
      omega (arith, here, none, tested)
  | inr e ↦
      let here = run_other c n 0 (length text) e in
      let rest = count_inserted os c told.1 in
      rw e (omega (arith, here, rest))
]
count_inserted (deleting n p k ∷ os) c told = rw (puts_none c (deleting n p k) refl) (count_inserted os c told.1)
count_inserted (undoing a t g k ∷ os) c told = count_inserted os c told.1

-- what stands at a place of the members is an operation of the list
got_member : (h : List OpData) (i : ℕ) (m : Member) → slice_get (members_in h) i ≡ Some m → (o : OpData) × IsIn o h × (member_of o ≡ m)
got_member [] i m got = let none : ◌≡◌ {A = Option Member} None (Some m) = got in absurd (cc)
got_member (o ∷ os) zero m got = (o, inl refl, let same : Some (member_of o) ≡ Some m = got in cc)
got_member (o ∷ os) (suc i) m got = let r = got_member os i m got in (r.0, inr r.1, r.2)

has_told : (h : List OpData) (c : Cell) (i : ℕ) → AreToldApart h → slice_get (members_in h) i ≡ Some (Original c.0)
    → has_cell h c ≡ nat_lt c.1 (option_map_or cells_put (slice_get h i) 0)
has_told [] c i told got = let none : ◌≡◌ {A = Option Member} None (Some (Original c.0)) = got in absurd (cc)
has_told (o ∷ os) c zero told got =
    let same : Some (member_of o) ≡ Some (Original c.0) = got in
    let is : member_of o ≡ Original c.0 = cc in
    has_decided o os c told.0 is
has_told (o ∷ os) c (suc i) told got =
    let r = got_member os i (Original c.0) got in
    let other : member_of o ≢ Original c.0 = λ is. told_lacks o os c.0 told.0 is r.0 r.1 r.2 in
    rw (puts_other c o other) (has_told os c i told.1 got)

module _ (h : List OpData) (valid : IsValid h) (c : Cell) (i : ℕ) (got : slice_get (members_in h) i ≡ Some (Original c.0)) where
  abbrev many : ℕ
  many = option_map_or cells_put (slice_get h i) 0

  -- where the operation of its name brings enough characters, the history has the cell, and only there
  pub has_more : c.1 < many → has_cell h c ≡ true
  has_more lt = has_told h c i (told_apart h valid) got ∙ lt-ltb c.1 many lt

  pub more_had : has_cell h c ≡ true → c.1 < many
  more_had has = elim (cases_lt c.1 many) [
    | inl lt ↦ lt
    | inr ge ↦
        absurd (true≢false (sym has ∙ has_told h c i (told_apart h valid) got ∙ le-ltb c.1 many ge))
  ]

-- a history knows the names of its cells
pub has_known : (h : List OpData) (c : Cell) → has_cell h c ≡ true → is_known h (Original c.0) ≡ true
has_known [] c has = absurd (true≢false (sym has))
has_known (o ∷ os) c has = elim (cases_Bool (member_eq (member_of o) (Original c.0))) [
  | inl hit ↦ rw hit refl
  | inr miss ↦
      let rest : has_cell os c ≡ true =
      sym (ap (λ (b : Bool). (b && nat_lt c.1 (cells_put o)) || has_cell os c) miss) ∙ has in
      rw miss (has_known os c rest)
]

-- ---- so it stands once, or not at all

pub stands_once : (h : List OpData) (c : Cell) → IsValid h → count (is_same c) (replay_of h) ≡ (if has_cell h c then 1 else 0)
stands_once h c valid =
    omega (
      arith,
      count-replay (is_same c) (fixed_order h) [] [],
      total-sort_by (put_count (is_same c)) is_earlier (insertions_in h),
      count_inserted h c (told_apart h valid),
    )

pub same_cell : (c d : Cell) → is_same c d ≡ true → d ≡ c
same_cell c d e =
    let both = and_parts (name_eq d.0 c.0) (d.1 == c.1) e in
    let name = name_same d.0 c.0 both.0 in
    let offset : d.1 ≡ c.1 = let test = both.1 in grind (arith, nat_tests) in
    λ i. (name i, offset i)

pub itself : (c : Cell) → is_same c c ≡ true
itself c = rw (name_itself c.0) (grind (arith, nat_tests))

none_kept : (p : Cell → Bool) (xs : List Cell) → count p xs ≡ 0 → filter p xs ≡ []
none_kept p [] e = refl
none_kept p (x ∷ xs) e = elim (cases_Bool (p x)) [
  | inl hit ↦ let one = one_hit (p x) hit in absurd (omega (arith, one, e))
  | inr miss ↦ rw miss (none_kept p xs (omega (arith, e)))
]

one_kept : (c : Cell) (xs : List Cell) → count (is_same c) xs ≡ 1 → filter (is_same c) xs ≡ c ∷ []
one_kept c [] e = absurd (omega (arith, e))
one_kept c (x ∷ xs) e = elim (cases_Bool (is_same c x)) [
  | inl hit ↦
      let one = one_hit (is_same c x) hit in
      let rest = none_kept (is_same c) xs (omega (arith, one, e)) in
      rw (hit, rest) (ap (λ (d : Cell). d ∷ []) (same_cell c x hit))
  | inr miss ↦
      let zero = one_miss (is_same c x) miss in
      rw miss (one_kept c xs (omega (arith, zero, e)))
]

pub cells_once : EachCellStandsOnce
cells_once h c valid =
    let once = stands_once h c valid in
    elim (cases_Bool (has_cell h c)) [
      | inl has ↦ rw has (one_kept c (replay_of h) (once ∙ ap one_if has))
      | inr miss ↦ rw miss (none_kept (is_same c) (replay_of h) (once ∙ ap one_if miss))
    ]
