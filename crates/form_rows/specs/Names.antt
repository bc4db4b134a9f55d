-- Names of the inserts that forms are of.
use Rattle.std.specs.Prelude.{◌≡◌, Bool, false, Option, Some, None}
use Rattle.std.proofs.Common.{refl}
use Rattle.op_name.specs.NameData.{NameData}
use Rattle.op_name.specs.declared.member.Member.{Member}
use Rattle.op_name.specs.declared.member.Member.TheVariants.{Original}
use Rattle.context_vector.specs.Contexts.{ContextData, has}
use Rattle.ttf_form.specs.declared.form.Form.{Form}
use Rattle.ttf_form.specs.declared.form.Form.TheVariants.{Ins as Insert, Cover as Covered}
use Rattle.ttf_form.specs.Families.{IsIn}
use Rattle.ttf_form.specs.Forms.{form_over}
use Rattle.transform_rec.specs.Family.{Family}

-- the name of the insert that a form is of
abbrev pub insert_of : Form → Option NameData
insert_of (Insert a) = Some a.name
insert_of (Covered c) = None

pub insert_over : (a b : Form) → insert_of (form_over a b) ≡ insert_of a
insert_over (Insert a) (Insert b) = refl
insert_over (Insert a) (Covered d) = refl
insert_over (Covered c) (Insert b) = refl
insert_over (Covered c) (Covered d) = refl

-- whether the context has the original of this name; without a name it has none
abbrev pub had : ContextData → Option NameData → Bool
had c None = false
had c (Some n) = has c (Original n)

-- whether the context has the member that a form is of
abbrev pub had_by : {F : Type 0} → (F → Option NameData) → ContextData → F → Bool
had_by named c f = had c (named f)

-- a member with its name
pub record IsNamed {F : Type 0} (named : F → Option NameData) (b : Family F) (x : Member) : Type 0 where
  pub name : NameData
  pub is : x ≡ Original name
  pub says : named (b.form x) ≡ Some name

-- each base form that isn't inert says the name of its member, an original
abbrev pub AreNamed : {F : Type 0} → (F → Option NameData) → (F → Type 0) → Family F → Type 0
AreNamed named IsInert b = (x : Member) → IsIn x b.members → (IsInert (b.form x) → ⊥) → IsNamed named b x
