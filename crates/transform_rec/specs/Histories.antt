-- Histories as families, and where a member may be added to a context.
use Rattle.std.specs.Prelude.{◌≡◌, Bool, true, false, List}
use Rattle.op_name.specs.declared.member.Member.{Member}
use Rattle.context_vector.specs.Contexts.{ContextData, has, HasNoStray}
use Rattle.context_diff.specs.Operations.{OpData}
use Rattle.context_diff.specs.Histories.{members_in, is_known, LacksNothing, IsClosed, IsValid, Same}
use Rattle.context_diff.specs.Bases.{base_has}
use Rattle.ttf_form.specs.declared.bases.Bases
use Rattle.transform_rec.specs.Family.{Family}
use Rattle.transform_rec.specs.Derived.{IsOnlyFormAt}

-- the members of a history with their base contexts, and these base forms
abbrev pub family_in : {F : Type 0} → List OpData → (Member → F) → Family F
family_in h form = record { members = members_in h; context = base_has h; form = form }

-- the members of a history with their base contexts, and no forms
abbrev pub members_alone : List OpData → Family (Unit {0})
members_alone h = family_in h (λ x. tt)

-- the members of a history with the base forms of a value of bases
abbrev pub family_over : {B F : Type 0} → Bases.Ghosts B F → B → List OpData → Family F
family_over b s h = family_in h (b.base_form s)

-- a value of bases for the history: it lists its members, and has the base context of each of them
pub record AreBasesOf {B F : Type 0} (b : Bases.Ghosts B F) (s : B) (h : List OpData) : Type 0 where
  pub members : b.members s ≡ members_in h
  pub contexts : (x y : Member) → is_known h x ≡ true → b.base_context s x y ≡ base_has h x y

-- the member is one of the history, and the context is a closed one within the history that holds the member's base context
-- and lacks the member
pub record MayBeAddedTo (h : List OpData) (c : ContextData) (m : Member) : Type 0 where
  pub known : is_known h m ≡ true
  pub ready : LacksNothing h c
  pub closed : IsClosed h c
  pub stray : HasNoStray c
  pub covers : (y : Member) → base_has h m y ≡ true → has c y ≡ true
  pub lacks : has c m ≡ false

-- the only form of a member over one history is the only one over every history with the same operations, whatever their order
abbrev pub SameOperationsSameForm : {F : Type 0} → (F → F → F) → Type 0
SameOperationsSameForm {F} over =
    (h k : List OpData) (form other : Member → F) → IsValid h → IsValid k → Same h k
    → ((x : Member) → is_known h x ≡ true → form x ≡ other x)
    → (m : Member) (C : Member → Bool) (f : F) → IsOnlyFormAt over (family_in h form) m C f → IsOnlyFormAt over (family_in k other) m C f
