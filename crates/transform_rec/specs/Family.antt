-- A family: a list of members, each with its base context and its base form.
use Rattle.std.specs.Prelude.{◌≡◌, ℕ, Bool, true, false, List, [], ◌∷◌}
use Rattle.op_name.specs.declared.member.Member.{Member}
use Rattle.transform_rec.specs.Sets.{IsSubset}
use Rattle.ttf_form.specs.Families.{IsIn, sum_where}
use Rattle.transform_rec.specs.Lists.{AreApart}

pub record Family (F : Type 0) : Type 0 where
  pub members : List Member
  pub context : Member → Member → Bool
  pub form : Member → F

-- no member's context has the member itself or one after it
abbrev pub IsCausal : (Member → Member → Bool) → List Member → Type 0
IsCausal context [] = Unit {0}
IsCausal context (y ∷ ys) = ((z : Member) → IsIn z (y ∷ ys) → context y z ≡ false) × IsCausal context ys

-- each member is listed once and after its base context, and base contexts hold the base contexts of their members
pub record IsCausalFamily {F : Type 0} (b : Family F) : Type 0 where
  pub distinct : AreApart b.members
  pub causal : IsCausal b.context b.members
  pub listed : (m x : Member) → IsIn m b.members → b.context m x ≡ true → IsIn x b.members
  pub closed : (m x : Member) → IsIn m b.members → b.context m x ≡ true → IsSubset (b.context x) (b.context m)

-- a set of listed members that holds the base context of each of them
pub record IsClosed {F : Type 0} (b : Family F) (C : Member → Bool) : Type 0 where
  pub listed : (x : Member) → C x ≡ true → IsIn x b.members
  pub closed : (x : Member) → C x ≡ true → IsSubset (b.context x) C

-- m may be added to C: C is closed, holds m's base context, and lacks m
pub record IsSound {F : Type 0} (b : Family F) (m : Member) (C : Member → Bool) : Type 0 where
  pub listed : IsIn m b.members
  pub covers : IsSubset (b.context m) C
  pub set : IsClosed b C
  pub lacks : C m ≡ false

-- the number of members of a set
abbrev pub size : {F : Type 0} → Family F → (Member → Bool) → ℕ
size b C = sum_where C (λ x. 1) b.members
