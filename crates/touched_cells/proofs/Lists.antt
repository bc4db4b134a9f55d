-- Lists of places to which those of sought cells are added.
use Rattle.std.proofs.Common.{◌≡◌, ℕ, ◌+◌, List, [], ◌∷◌, ◌++◌, inl, inr, sym, subst, arith}
use Rattle.std.specs.Prelude.{◌⊎◌, Contains}
use Rattle.std.proofs.lemmas.Bool.{cases_lt}
use Rattle.std.proofs.lemmas.List.Elements.{Contains-append_left, Contains-push, Contains-push_cases}
use Rattle.op_name.specs.NameData.{NameData}
use Rattle.context_diff.specs.Replays.{Cell}
use Rattle.touched_cells.specs.Code.Seeking.{AreWith, AtMostOne, StandsAt, StandOnce, IsOneOf}

-- a list has one place more, of which it is known what it is
abbrev IsPushed : List ℕ → ℕ → List ℕ → Type 0
IsPushed old q new = new ≡ old ++ q ∷ []

pushed_cases : (old new : List ℕ) (q p : ℕ) → IsPushed old q new → Contains new p → Contains old p ⊎ (q ≡ p)
pushed_cases old new q p is c = Contains-push_cases old q p (subst (λ (ps : List ℕ). Contains ps p) is c)

pushed_old : (old new : List ℕ) (q p : ℕ) → IsPushed old q new → Contains old p → Contains new p
pushed_old old new q p is c = subst (λ (ps : List ℕ). Contains ps p) (sym is) (Contains-append_left old (q ∷ []) p c)

pushed_new : (old new : List ℕ) (q p : ℕ) → IsPushed old q new → p ≡ q → Contains new p
pushed_new old new q p is e =
    subst (λ (x : ℕ). Contains new x) (sym e) (subst (λ (ps : List ℕ). Contains ps q) (sym is) (Contains-push old q))

-- the one place that is such was added
pub with_one : (P : ℕ → Type 0) (old new : List ℕ) (q : ℕ) → AtMostOne P → P q → new ≡ old ++ q ∷ [] → AreWith P old new
with_one P old new q one at is p = (
  λ c. elim (pushed_cases old new q p is c) [ inl o ↦ inl o | inr e ↦ inr (subst P e at) ],
  λ d. elim d [ inl o ↦ pushed_old old new q p is o | inr b ↦ pushed_new old new q p is (one p q b at) ],
)

-- nothing was added of no cell
pub with_none : (ks : List Cell) (n : NameData) (ps : List ℕ) → AreWith (IsOneOf ks n 0) ps ps
with_none ks n ps p = (λ c. inl c, λ d. elim d [ inl o ↦ o | inr b ↦ absurd (omega (arith, b.1)) ])

-- the place of the next cell of an insert was added
pub with_next : (ks : List Cell) (n : NameData) (k : ℕ) (old mid new : List ℕ) (q : ℕ) → StandOnce ks → StandsAt ks (n, k) q
    → AreWith (IsOneOf ks n k) old mid → new ≡ mid ++ q ∷ [] → AreWith (IsOneOf ks n (k + 1)) old new
with_next ks n k old mid new q once at so_far is p = (forth, back)
  where
    forth : Contains new p → Contains old p ⊎ IsOneOf ks n (k + 1) p
    forth c = elim (pushed_cases mid new q p is c) [
      | inl m ↦ elim ((so_far p).0 m) [ inl o ↦ inl o | inr b ↦ inr (b.0, omega (arith, b.1), b.2) ]
      | inr e ↦ inr (k, omega arith, subst (λ (x : ℕ). StandsAt ks (n, k) x) e at)
    ]

    back : Contains old p ⊎ IsOneOf ks n (k + 1) p → Contains new p
    back (inl o) = pushed_old mid new q p is ((so_far p).1 (inl o))
    back (inr b) = elim (cases_lt b.0 k) [
      | inl less ↦ pushed_old mid new q p is ((so_far p).1 (inr (b.0, less, b.2)))
      | inr most ↦
          let same : b.0 ≡ k = omega (arith, most, b.1) in
          pushed_new mid new q p is (once (n, k) p q (subst (λ (j : ℕ). StandsAt ks (n, j) p) same b.2) at)
    ]

-- a greater list with the same places
pub with_same : (P Q : ℕ → Type 0) (old new : List ℕ) → ((p : ℕ) → (P p → Q p) × (Q p → P p)) → AreWith P old new → AreWith Q old new
with_same P Q old new same w p = (
  λ c. elim ((w p).0 c) [ inl o ↦ inl o | inr b ↦ inr ((same p).0 b) ],
  λ d. elim d [ inl o ↦ (w p).1 (inl o) | inr b ↦ (w p).1 (inr ((same p).1 b)) ],
)
