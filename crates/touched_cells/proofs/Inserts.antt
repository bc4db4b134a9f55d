-- Each cell of a valid history's replay is one of an insert of the history, within its text, and stands there once.
use Rattle.std.proofs.Common.{◌≡◌, ℕ, zero, suc, ◌+◌, ◌<◌, ◌≤◌, List, [], ◌∷◌, if◌then◌else◌, length, inl, inr, refl, ap, sym, ◌∙◌, arith}
use Rattle.std.specs.Prelude.{◌&&◌, ◌==◌, Some, None, sum_by}
use Rattle.std.proofs.lemmas.Bool.{cases_Bool, cases_lt, and_parts, and_from}
use Rattle.std.proofs.lemmas.List.Sums.{sum_by-cons}
use Rattle.op_name.specs.NameData.{NameData, name_eq}
use Rattle.op_name.specs.declared.member.Member.{Member}
use Rattle.op_name.specs.declared.member.Member.TheVariants.{Original}
use Rattle.op_name.proofs.CallerLemmas.{name_itself, name_same, number_order}
use Rattle.context_vector.specs.Contexts.{ContextData, has, rank_of}
use Rattle.context_diff.specs.Operations.{OpData, inserting, deleting, undoing, member_of}
use Rattle.context_diff.specs.Histories.{members_in, IsValid}
use Rattle.context_diff.specs.Replays.{Cell, insertions_in, run_of, replay_of}
use Rattle.ttf_form.specs.Families.{IsIn}
use Rattle.undo_group.specs.Laws.Members.{member_listed}
use Rattle.transform_rec.specs.Lists.{AreApart}
use Rattle.transform_rec.proofs.CallerLemmas.{history_causal}
use Rattle.touched_cells.specs.Code.Seeking.{StandsAt, StandOnce}
use Rattle.touched_cells.proofs.Counts.{sum_put, sum-replay_of}

-- ---- how often a cell stands in a list

-- 1 for the cell, and 0 for any other
abbrev one_if : Cell → Cell → ℕ
one_if c d = if name_eq d.0 c.0 && (d.1 == c.1) then 1 else 0

abbrev times : Cell → List Cell → ℕ
times c ks = sum_by (one_if c) ks

one_itself : (c : Cell) → one_if c c ≡ 1
one_itself c = rw (and_from (name_eq c.0 c.0) (c.1 == c.1) (name_itself c.0) (number_order.itself c.1)) refl

one_most : (c d : Cell) → one_if c d ≤ 1
one_most c d = elim (cases_Bool (name_eq d.0 c.0 && (d.1 == c.1))) [ inl e ↦ rw e (omega arith) | inr e ↦ rw e (omega arith) ]

-- it is 1 of no other cell
one_tells : (c d : Cell) → 1 ≤ one_if c d → (d.0 ≡ c.0) × (d.1 ≡ c.1)
one_tells c d some = elim (cases_Bool (name_eq d.0 c.0 && (d.1 == c.1))) [
  | inl e ↦
      let r = and_parts (name_eq d.0 c.0) (d.1 == c.1) e in
      (name_same d.0 c.0 r.0, number_order.same d.1 c.1 r.1)
  | inr e ↦ let none : one_if c d ≡ 0 = rw e refl in absurd (omega (arith, none))
]

stands_some : (c : Cell) (ks : List Cell) (p : ℕ) → StandsAt ks c p → 1 ≤ times c ks
stands_some c [] p e = let none : None ≡ Some c = e in cc
stands_some c (k ∷ ks) zero e =
    let is : k ≡ c = cc in
    let here : one_if c k ≡ 1 = ap (one_if c) is ∙ one_itself c in
    omega (arith, here, sum_by-cons (one_if c) k ks)
stands_some c (k ∷ ks) (suc p) e = let rest = stands_some c ks p e in omega (arith, rest, sum_by-cons (one_if c) k ks)

here_once : (c k : Cell) (ks : List Cell) (q : ℕ) {P : Type 0} → times c (k ∷ ks) ≤ 1 → k ≡ c → StandsAt ks c q → P
here_once c k ks q most is e =
    let here : one_if c k ≡ 1 = ap (one_if c) is ∙ one_itself c in
    let rest = stands_some c ks q e in
    absurd (omega (arith, here, rest, most, sum_by-cons (one_if c) k ks))

-- a cell that stands at most once stands at one place
stands_at_one : (c : Cell) (ks : List Cell) → times c ks ≤ 1 → (p q : ℕ) → StandsAt ks c p → StandsAt ks c q → p ≡ q
stands_at_one c [] most p q e f = let none : None ≡ Some c = e in cc
stands_at_one c (k ∷ ks) most zero zero e f = refl
stands_at_one c (k ∷ ks) most zero (suc q) e f = let is : k ≡ c = cc in here_once c k ks q most is f
stands_at_one c (k ∷ ks) most (suc p) zero e f = let is : k ≡ c = cc in here_once c k ks p most is e
stands_at_one c (k ∷ ks) most (suc p) (suc q) e f =
    ap (λ n. suc n) (stands_at_one c ks (omega (arith, most, sum_by-cons (one_if c) k ks)) p q e f)

-- ---- the cells that one insert puts

run_parts : (c : Cell) (n : NameData) (first k : ℕ)
    → times c (run_of n first (suc k)) ≡ one_if c (n, first) + times c (run_of n (suc first) k)
run_parts c n first k = sum_by-cons (one_if c) (n, first) (run_of n (suc first) k)

run_behind : (c : Cell) (n : NameData) (first k : ℕ) → c.1 < first → times c (run_of n first k) ≡ 0
run_behind c n first zero less = refl
run_behind c n first (suc k) less =
    let parts = run_parts c n first k in
    let rest = run_behind c n (suc first) k (omega (arith, less)) in
    elim (cases_lt 0 (one_if c (n, first))) [
      | inl some ↦ let is = one_tells c (n, first) some in absurd (omega (arith, is.1, less))
      | inr none ↦ omega (arith, parts, rest, none)
    ]

run_most : (c : Cell) (n : NameData) (first k : ℕ) → times c (run_of n first k) ≤ 1
run_most c n first zero = omega arith
run_most c n first (suc k) =
    let parts = run_parts c n first k in
    let one = one_most c (n, first) in
    elim (cases_lt 0 (one_if c (n, first))) [
      | inl some ↦
          let is = one_tells c (n, first) some in
          let rest = run_behind c n (suc first) k (omega (arith, is.1)) in
          omega (arith, parts, rest, one)
      | inr none ↦ let rest = run_most c n (suc first) k in omega (arith, parts, rest, none)
    ]

run_tells : (c : Cell) (n : NameData) (first k : ℕ) → 1 ≤ times c (run_of n first k) → (n ≡ c.0) × (c.1 < first + k)
run_tells c n first zero some = absurd (omega (arith, some))
run_tells c n first (suc k) some = elim (cases_lt 0 (one_if c (n, first))) [
  | inl here ↦ let is = one_tells c (n, first) here in (is.0, omega (arith, is.1))
  | inr none ↦ let rest = run_tells c n (suc first) k (omega (arith, some, none, run_parts c n first k)) in (rest.0, omega (arith, rest.1))
]

-- ---- those that the inserts of a history put

-- the cell is one of an insert of the history, within its text
pub record IsCellOf (h : List OpData) (c : Cell) : Type 0 where
  pub place : ℕ
  pub text : List ℕ
  pub context : ContextData
  pub there : IsIn (inserting c.0 place text context) h
  pub within : c.1 < length text

cell_later : (h : List OpData) (o : OpData) (c : Cell) → IsCellOf h c → IsCellOf (o ∷ h) c
cell_later h o c i = record { place = i.place; text = i.text; context = i.context; there = inr i.there; within = i.within }

put_parts : (c : Cell) (n : NameData) (p : ℕ) (text : List ℕ) (k : ContextData) (os : List OpData)
    → sum_by (sum_put (one_if c)) (insertions_in (inserting n p text k ∷ os))
    ≡ times c (run_of n 0 (length text)) + sum_by (sum_put (one_if c)) (insertions_in os)
put_parts c n p text k os =
    sum_by-cons (sum_put (one_if c))
    (record { name = n; place = p; len = length text; rank = rank_of k; sees = λ m. has k (Original m) }) (insertions_in os)

put_tells : (c : Cell) (h : List OpData) → 1 ≤ sum_by (sum_put (one_if c)) (insertions_in h) → IsCellOf h c
put_tells c [] some = absurd (omega (arith, some))
put_tells c (inserting n p text k ∷ os) some = elim (cases_lt 0 (times c (run_of n 0 (length text)))) [
  | inl here ↦
      let is = run_tells c n 0 (length text) here in
      record {
        place = p;
        text = text;
        context = k;
        there = inl (ap (λ (m : NameData). inserting m p text k) (sym is.0));
        within = omega (arith, is.1);
      }
  | inr none ↦ cell_later os (inserting n p text k) c (put_tells c os (omega (arith, some, none, put_parts c n p text k os)))
]
put_tells c (deleting n p k ∷ os) some = cell_later os (deleting n p k) c (put_tells c os some)
put_tells c (undoing a t g k ∷ os) some = cell_later os (undoing a t g k) c (put_tells c os some)

put_most : (c : Cell) (h : List OpData) → AreApart (members_in h) → sum_by (sum_put (one_if c)) (insertions_in h) ≤ 1
put_most c [] apart = omega arith
put_most c (inserting n p text k ∷ os) apart =
    let parts = put_parts c n p text k os in
    let here = run_most c n 0 (length text) in
    elim (cases_lt 0 (times c (run_of n 0 (length text)))) [
      | inl some ↦ elim (cases_lt 0 (sum_by (sum_put (one_if c)) (insertions_in os))) [
        | inl more ↦
            let is = run_tells c n 0 (length text) some in
            let other = put_tells c os more in
            absurd (apart.0 (member_of (inserting c.0 other.place other.text other.context))
            (member_listed (inserting c.0 other.place other.text other.context) os other.there)
            (ap (λ (m : NameData). member_of (inserting m p text k)) is.0))
        | inr none ↦ omega (arith, parts, here, none)
      ]
      | inr none ↦ let rest = put_most c os apart.1 in omega (arith, parts, rest, none)
    ]
put_most c (deleting n p k ∷ os) apart = put_most c os apart.1
put_most c (undoing a t g k ∷ os) apart = put_most c os apart.1

module _ (h : List OpData) (v : IsValid h) where
  -- no cell of the replay stands at two places
  pub replayed_once : StandOnce (replay_of h)
  replayed_once c p q e f =
      let most = put_most c h (history_causal {F = Member} h (λ m. m) v).distinct in
      stands_at_one c (replay_of h) (omega (arith, most, sum-replay_of (one_if c) h)) p q e f

  -- and each is one of an insert
  pub replayed_insert : (c : Cell) (p : ℕ) → StandsAt (replay_of h) c p → IsCellOf h c
  replayed_insert c p e =
      let some = stands_some c (replay_of h) p e in
      put_tells c h (omega (arith, some, sum-replay_of (one_if c) h))
