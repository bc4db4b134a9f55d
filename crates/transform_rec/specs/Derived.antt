-- Derived forms (COT 2009: an operation is brought to a greater context by including, one after the other, the
-- operations of the difference, each of them in its form at the context that is reached).
use Rattle.std.specs.Prelude.{◌≡◌, ◌≢◌, ℕ, ◌+◌, ◌≤◌, Bool, true, false, ◌⊎◌}
use Rattle.op_name.specs.declared.member.Member.{Member}
use Rattle.transform_rec.specs.Sets.{SameSet, plus}
use Rattle.ttf_form.specs.Families.{IsIn, sum_where}
use Rattle.transform_rec.specs.Family.{Family, IsCausalFamily}

module _ {F : Type 0} (over : F → F → F) (b : Family F) where
  -- a form of m at C: its base form at its base context; or, where C is a set with another member x more, a form at that set after
  -- the inclusion of a form of x at that same set (COT 2009)
  pub data Derived : Member → (Member → Bool) → F → Type 0 where
    at_base : {m : Member} {C : Member → Bool} {f : F} → IsIn m b.members → SameSet C (b.context m) → f ≡ b.form m → Derived m C f
    by_step : {m : Member} {C : Member → Bool} {f : F} (D : Member → Bool) (x : Member) (g k : F) → IsIn x b.members → m ≢ x → D x ≡ false
        → SameSet C (plus D x) → Derived m D g → Derived x D k → f ≡ over g k → Derived m C f

-- f is a derived form of m at C, and there is no other
abbrev pub IsOnlyFormAt : {F : Type 0} → (F → F → F) → Family F → Member → (Member → Bool) → F → Type 0
IsOnlyFormAt {F} over b m C f = Derived over b m C f × ((g : F) → Derived over b m C g → g ≡ f)

-- a derivation of m at C names m and members of C alone: it holds over any family that lists those of them that the first one
-- lists, with the same base contexts and base forms
abbrev pub DerivationsNameMembers : {F : Type 0} → (F → F → F) → Type 0
DerivationsNameMembers {F} over =
    (b c : Family F) (m : Member) (C : Member → Bool) (f : F)
    → ((x : Member) → (x ≡ m) ⊎ (C x ≡ true) → IsIn x b.members
    → IsIn x c.members × (SameSet (b.context x) (c.context x) × (b.form x ≡ c.form x)))
    → Derived over b m C f → Derived over c m C f

-- a type of forms with its inclusion
pub record Inclusion (F : Type 0) : Type 1 where
  pub Apart : F → F → Type 0
  pub IsBounded : F → ℕ → Type 0
  pub over : F → F → F
  pub place : F → ℕ
  pub extent : F → ℕ

-- the laws of inclusion; the first is TP2
pub record IsInclusion {F : Type 0} (i : Inclusion F) : Type 0 where
  pub tp2 : (o a b : F) → i.Apart o a → i.Apart o b → i.Apart a b → i.over (i.over o a) (i.over b a) ≡ i.over (i.over o b) (i.over a b)
  pub apart_sym : (a b : F) → i.Apart a b → i.Apart b a
  pub apart_over : (a b c : F) → i.Apart a b → i.Apart (i.over a c) b
  pub extent_over : (a b : F) → i.extent (i.over a b) ≡ i.extent a
  pub bound_place : (a : F) (n : ℕ) → i.IsBounded a n → i.place a ≤ n
  pub bound_over : (a b : F) (n : ℕ) → i.IsBounded a n → i.IsBounded (i.over a b) (n + i.extent b)

-- the number of cells that the members of a set add
abbrev pub weight : {F : Type 0} → Inclusion F → Family F → (Member → Bool) → ℕ
weight i b C = sum_where C (λ x. i.extent (b.form x)) b.members

-- unrelated base forms are apart, and each base form is bounded by the weight of its base context
pub record IsFamily {F : Type 0} (i : Inclusion F) (b : Family F) : Type 0 where
  pub causal : IsCausalFamily b
  pub apart : (m x : Member) → IsIn m b.members → IsIn x b.members → m ≢ x → b.context m x ≡ false → b.context x m ≡ false
      → i.Apart (b.form m) (b.form x)
  pub bounded : (m : Member) → IsIn m b.members → i.IsBounded (b.form m) (weight i b (b.context m))

-- all that derived forms rest on
pub record Deriving (F : Type 0) : Type 1 where
  pub inclusion : Inclusion F
  pub laws : IsInclusion inclusion
  pub family : Family F
  pub known : IsFamily inclusion family

-- the second family holds the members of the first, with the same base contexts and base forms
pub record Holds {F : Type 0} (b c : Family F) : Type 0 where
  pub members : (x : Member) → IsIn x b.members → IsIn x c.members
  pub context : (x : Member) → IsIn x b.members → SameSet (b.context x) (c.context x)
  pub form : (x : Member) → IsIn x b.members → b.form x ≡ c.form x
