-- The places of the cells that operations touched, from one of them on and before another one.
use Rattle.std.proofs.Common.{◌≡◌, ℕ, zero, suc, ◌+◌, ◌<◌, ◌≤◌, List, [], ◌∷◌, length, drop, get_or, inl, inr, refl, ap, sym, ◌∙◌, subst, arith}
use Rattle.std.specs.Prelude.{◌↔◌, Contains, Some, None, slice_get}
use Rattle.std.specs.List.Sorted.{IsStrictlyIncreasing}
use Rattle.std.proofs.lemmas.Bool.{cases_lt}
use Rattle.std.proofs.lemmas.List.Elements.{Contains-get_or}
use Rattle.std.proofs.lemmas.Option.{slice_get_within}
use Rattle.context_diff.specs.Operations.{OpData}
use Rattle.context_diff.proofs.CallerLemmas.{contains_none}
use Rattle.ttf_form.specs.Cells.{CellData}
use Rattle.ttf_form.specs.Families.{IsIn}
use Rattle.undo_group.specs.Laws.Members.{in_contains, contains_in}
use Rattle.touched_cells.specs.Touched.{name_touched, IsBearer, IsTouched, ArePlacesTouched}
use Rattle.touched_cells.specs.Code.Seeking.{AreWith, IsTouchedBetween}
use Rattle.touched_cells.proofs.Bearers.{got_in}

-- what stands at a place from another one on
dropped_in : {A : Type 0} (xs : List A) (from i : ℕ) (x : A) → from ≤ i → slice_get xs i ≡ Some x → IsIn x (drop from xs)
dropped_in xs zero i x le e = got_in xs i x e
dropped_in [] (suc from) i x le e = let none : None ≡ Some x = e in cc
dropped_in (y ∷ ys) (suc from) zero x le e = absurd (omega (arith, le))
dropped_in (y ∷ ys) (suc from) (suc i) x le e = dropped_in ys from i x (omega (arith, le)) e

-- within a list stands an element at each place
pub some_there : {A : Type 0} (xs : List A) (i : ℕ) → i < length xs → slice_get xs i ≡ None → ⊥
some_there [] i lt e = omega (arith, lt)
some_there (x ∷ xs) zero lt e = let some : Some x ≡ None = e in cc
some_there (x ∷ xs) (suc i) lt e = some_there xs i (omega (arith, lt)) e

pub got_there : {A : Type 0} (xs : List A) (i : ℕ) → i < length xs → (x : A) × (slice_get xs i ≡ Some x)
got_there [] i lt = absurd (omega (arith, lt))
got_there (x ∷ xs) zero lt = (x, refl)
got_there (x ∷ xs) (suc i) lt = got_there xs i (omega (arith, lt))

-- where an element stands
record IsAt {A : Type 0} (xs : List A) (from : ℕ) (x : A) : Type 0 where
  index : ℕ
  late : from ≤ index
  there : slice_get xs index ≡ Some x

in_at : {A : Type 0} (xs : List A) (x : A) → IsIn x xs → IsAt xs 0 x
in_at [] x i = absurd i
in_at (y ∷ ys) x (inl e) = record { index = 0; late = omega arith; there = ap (λ z. Some z) (sym e) }
in_at (y ∷ ys) x (inr i) = let r = in_at ys x i in record { index = suc r.index; late = omega arith; there = r.there }

dropped_at : {A : Type 0} (xs : List A) (from : ℕ) (x : A) → IsIn x (drop from xs) → IsAt xs from x
dropped_at xs zero x i = in_at xs x i
dropped_at [] (suc from) x i = absurd i
dropped_at (y ∷ ys) (suc from) x i =
    let r = dropped_at ys from x i in record { index = suc r.index; late = (let l = r.late in omega (arith, l)); there = r.there }

module _ (h : List OpData) (from : ℕ) (cs : List CellData) where
  -- the places are those of the cells that were touched before an operation
  abbrev ArePlacesBefore : ℕ → List ℕ → Type 0
  ArePlacesBefore to ps = (p : ℕ) → Contains ps p ↔ IsTouchedBetween h from to cs p

  pub before_first : ArePlacesBefore from []
  before_first p = (λ c. absurd (contains_none p c), λ t. absurd (let l = t.late in let e = t.early in omega (arith, l, e)))

  pub before_next : (i : ℕ) (o : OpData) (old new : List ℕ) → from ≤ i → slice_get h i ≡ Some o
      → AreWith (IsBearer cs (name_touched o)) old new → ArePlacesBefore i old → ArePlacesBefore (i + 1) new
  before_next i o old new le at added was p = (forth, back)
    where
      later : IsTouchedBetween h from i cs p → IsTouchedBetween h from (i + 1) cs p
      later t =
          let e = t.early in
          record { index = t.index; op = t.op; late = t.late; early = omega (arith, e); there = t.there; bearer = t.bearer }

      forth : Contains new p → IsTouchedBetween h from (i + 1) cs p
      forth c = elim ((added p).0 c) [
        | inl before ↦ later ((was p).0 before)
        | inr here ↦ record { index = i; op = o; late = le; early = omega arith; there = at; bearer = here }
      ]

      back : IsTouchedBetween h from (i + 1) cs p → Contains new p
      back t = elim (cases_lt t.index i) [
        | inl less ↦
            (added p).1
            (inl ((was p).1
            (record { index = t.index; op = t.op; late = t.late; early = less; there = t.there; bearer = t.bearer })))
        | inr most ↦
            let e = t.early in
            let same : t.index ≡ i = omega (arith, most, e) in
            let there : slice_get h i ≡ Some t.op = sym (ap (λ (j : ℕ). slice_get h j) same) ∙ t.there in
            let some : Some t.op ≡ Some o = sym there ∙ at in
            let is : t.op ≡ o = cc in
            (added p).1 (inr (subst (λ (q : OpData). IsBearer cs (name_touched q) p) is t.bearer))
      ]

  -- once all operations were looked at, they are all places, in whichever order
  pub before_last : (to : ℕ) (ps qs : List ℕ) → length h ≤ to → ArePlacesBefore to ps → IsStrictlyIncreasing qs
      → ((p : ℕ) → Contains ps p → Contains qs p) → ((p : ℕ) → Contains qs p → Contains ps p) → ArePlacesTouched h from cs qs
  before_last to ps qs all are rising keeps adds = record {
    rising = rising;
    within = λ k d lt.
        let t = (are (get_or qs k d)).0 (adds (get_or qs k d) (Contains-get_or qs k d lt)) in
        slice_get_within cs (get_or qs k d) t.bearer.cell t.bearer.there;
    exact = λ p. (λ c. forth p ((are p).0 (adds p c)), λ t. keeps p ((are p).1 (back p t)));
  }
    where
      forth : (p : ℕ) → IsTouchedBetween h from to cs p → IsTouched h from cs p
      forth p t =
          record { op = t.op; late = in_contains t.op (drop from h) (dropped_in h from t.index t.op t.late t.there); bearer = t.bearer }

      back : (p : ℕ) → IsTouched h from cs p → IsTouchedBetween h from to cs p
      back p t =
          let a = dropped_at h from t.op (contains_in t.op (drop from h) t.late) in
          let less = slice_get_within h a.index t.op a.there in
          record { index = a.index; op = t.op; late = a.late; early = omega (arith, less, all); there = a.there; bearer = t.bearer }
