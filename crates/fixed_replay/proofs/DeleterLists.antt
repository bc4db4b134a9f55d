-- Deleters of a cell: an entry of a sorted list is its name with the greatest generation of that name.
use Rattle.std.proofs.Common.{◌≡◌, ℕ, suc, ◌≤◌, max, Bool, true, false, if◌then◌else◌, List, [], ◌∷◌, ◌⊎◌, inl, inr, refl, ap, sym, subst, arith}
use Rattle.std.proofs.lemmas.Bool.{cases_Bool}
use Rattle.op_name.specs.NameData.{NameData, name_eq, name_lt}
use Rattle.op_name.proofs.CallerLemmas.{name_itself, name_same, name_transitive}
use Rattle.context_vector.specs.Contexts.{IsBefore}
use Rattle.ttf_form.specs.Cells.{raise_in, IsRising}
use Rattle.ttf_form.specs.Laws.Deleters.{best, best_raise, best_raise_other, name_less_other}
use Rattle.transform_rec.specs.Lists.{IsIn}

abbrev pub Entry : Type 0
Entry = NameData × ℕ

-- an entry after a raise has the raised name or the name of an entry before it
raised_cases : (d : NameData) (g : ℕ) (e x : Entry) (es : List Entry)
    → (IsIn x (raise_in d g es) → (x.0 ≡ d) ⊎ ((y : Entry) × IsIn y es × (y.0 ≡ x.0)))
    → (l s : Bool) → (name_eq d e.0 ≡ true → s ≡ true → e.0 ≡ d) → name_eq d e.0 ≡ s
    → IsIn x (if l then (d, g) ∷ (e ∷ es) else if s then (d, max e.1 g) ∷ es else e ∷ raise_in d g es)
    → (x.0 ≡ d) ⊎ ((y : Entry) × IsIn y (e ∷ es) × (y.0 ≡ x.0))
raised_cases d g e x es ih true s f q (inl p) = inl (ap (λ (z : Entry). z.0) p)
raised_cases d g e x es ih true s f q (inr i) = inr (x, i, refl)
raised_cases d g e x es ih false true f q (inl p) = inl (ap (λ (z : Entry). z.0) p)
raised_cases d g e x es ih false true f q (inr i) = inr (x, inr i, refl)
raised_cases d g e x es ih false false f q (inl p) = inr (e, inl refl, ap (λ (z : Entry). z.0) (sym p))
raised_cases d g e x es ih false false f q (inr i) = elim (ih i) [ inl p ↦ inl p | inr y ↦ inr (y.0, inr y.1, y.2) ]

pub in-raise : (d : NameData) (g : ℕ) (x : Entry) (es : List Entry) → IsIn x (raise_in d g es)
    → (x.0 ≡ d) ⊎ ((y : Entry) × IsIn y es × (y.0 ≡ x.0))
unfolding raise_in
in-raise d g x [] (inl p) = inl (ap (λ (z : Entry). z.0) p)
in-raise d g x [] (inr i) = absurd i
in-raise d g x (e ∷ es) i =
    raised_cases d g e x es (in-raise d g x es) (name_lt d e.0) (name_eq d e.0) (λ a c. sym (name_same d e.0 a)) refl i

-- a name before all of a sorted list is none of them
before_best : (n d : NameData) (es : List Entry) → IsRising es → IsBefore d es → (n ≡ d) ⊎ (name_lt n d ≡ true) → best n es ≡ 0
before_best n d [] r l e = refl
before_best n d (x ∷ es) r l e =
    let less : name_lt n x.0 ≡ true =
    elim e [ inl p ↦ subst (λ (m : NameData). name_lt m x.0 ≡ true) (sym p) l | inr k ↦ name_transitive n d x.0 k l ] in
    let ih = before_best n x.0 es r.1 r.0 (inr less) in
    rw (name_less_other n x.0 less, ih) refl

-- each entry of a sorted list is the best of its name
pub entry_best : (x : Entry) (es : List Entry) → IsRising es → IsIn x es → best x.0 es ≡ suc x.1
entry_best x [] r i = absurd i
entry_best x (e ∷ es) r (inl p) =
    let none = before_best e.0 e.0 es r.1 r.0 (inl refl) in
    let first : best e.0 (e ∷ es) ≡ suc e.1 = rw (name_itself e.0, none) (omega arith) in
    subst (λ (y : Entry). best y.0 (e ∷ es) ≡ suc y.1) (sym p) first
entry_best x (e ∷ es) r (inr i) =
    let ih = entry_best x es r.1 i in
    let other : name_eq x.0 e.0 ≡ false = elim (cases_Bool (name_eq x.0 e.0)) [
      | inl k ↦ let none = before_best x.0 e.0 es r.1 r.0 (inl (name_same x.0 e.0 k)) in absurd (omega arith)
      | inr k ↦ k
    ] in
    rw (other, ih) (omega arith)

max_is : (a b c : ℕ) → max a b ≡ c → (a ≡ c) ⊎ (b ≡ c)
max_is a b c h = grind arith

-- the best of a name is an entry
pub best_entry : (d : NameData) (g : ℕ) (es : List Entry) → best d es ≡ suc g → IsIn (d, g) es
best_entry d g [] h = absurd (omega arith)
best_entry d g (e ∷ es) h = elim (cases_Bool (name_eq d e.0)) [
  | inl k ↦ elim (max_is (suc e.1) (best d es) (suc g) (rw k at h)) [
    | inl p ↦ inl (let a : d ≡ e.0 = name_same d e.0 k in let q : g ≡ e.1 = omega arith in λ i. (a i, q i))
    | inr p ↦ inr (best_entry d g es p)
  ]
  | inr k ↦ elim (max_is 0 (best d es) (suc g) (rw k at h)) [
    | inl p ↦ absurd (omega arith)
    | inr p ↦ inr (best_entry d g es p)
  ]
]

-- a raise lowers no best
pub best_more : (d n : NameData) (g : ℕ) (es : List Entry) → best d es ≤ best d (raise_in n g es)
best_more d n g es = elim (cases_Bool (name_eq d n)) [
  | inl k ↦ let s : d ≡ n =
      name_same d n k in let e : best d (raise_in n g es) ≡ max (suc g) (best d es) =
      subst (λ (m : NameData). best d (raise_in m g es) ≡ max (suc g) (best d es)) s (best_raise d g es) in omega arith
  | inr k ↦ let e = best_raise_other d n g es k in omega arith
]
