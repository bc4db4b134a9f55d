-- Base forms of a history: what each operation does to the state of its own context.
use Rattle.std.specs.Prelude.{◌≡◌, ℕ, List, [], ◌∷◌, length, refl, if◌then◌else◌}
use Rattle.op_name.specs.NameData.{NameData}
use Rattle.op_name.specs.declared.member.Member.{Member}
use Rattle.op_name.specs.declared.member.Member.TheVariants.{Original, Group}
use Rattle.op_name.specs.Members.{member_eq}
use Rattle.context_vector.specs.Contexts.{ContextData}
use Rattle.context_diff.specs.Operations.{OpData, inserting, deleting, undoing, member_of}
use Rattle.context_diff.specs.Histories.{members_in}
use Rattle.ttf_form.specs.declared.ins.Ins.{Ins}
use Rattle.ttf_form.specs.declared.cover.Cover.{Cover}
use Rattle.ttf_form.specs.declared.cover.Mark.{Mark}
use Rattle.ttf_form.specs.declared.cover.Mark.TheVariants.{Own, By}
use Rattle.ttf_form.specs.declared.form.Form.{Form}
use Rattle.ttf_form.specs.declared.form.Form.TheVariants.{Ins as Insert, Cover as Covered}
use Rattle.ttf_form.specs.Families.{IsIn}
use Rattle.undo_group.specs.Counts.{cell_count, some_cells, few_cells}

-- an insert of so many cells, of this name and at this place
pub record IsInsertForm (n : NameData) (p k : ℕ) (f : Form) : Type 0 where
  pub ins : Ins
  pub is : f ≡ Insert ins
  pub name : ins.name ≡ n
  pub place : ins.place ≡ p
  pub len : ins.len ≡ k

-- a cover at this place that leaves this mark
pub record IsCoverForm (p : ℕ) (m : Mark) (f : Form) : Type 0 where
  pub cover : Cover
  pub is : f ≡ Covered cover
  pub place : cover.place ≡ p
  pub mark : cover.mark ≡ m

-- the base form of an insert or a delete is what the operation says, an insert with a cell for each character; that of a group is a cover
-- at its original's place, which raises the generation of an insert, or of a delete among the deleters
pub record AreBaseForms (h : List OpData) (form : Member → Form) : Type 0 where
  pub inserts : (n : NameData) (p : ℕ) (text : List ℕ) (c : ContextData) → IsIn (inserting n p text c) h
      → IsInsertForm n p (length text) (form (Original n))
  pub deletes : (n : NameData) (p : ℕ) (c : ContextData) → IsIn (deleting n p c) h → IsCoverForm p (By n 0) (form (Original n))
  pub insert_groups : (t : NameData) (g : ℕ) (a : Ins) → IsIn (Group t g) (members_in h) → form (Original t) ≡ Insert a
      → IsCoverForm a.place (Own g) (form (Group t g))
  pub delete_groups : (t : NameData) (g : ℕ) (d : Cover) → IsIn (Group t g) (members_in h) → form (Original t) ≡ Covered d
      → IsCoverForm d.place (By t g) (form (Group t g))

-- the form of an original, as its operation says
abbrev pub form_of : OpData → Form
form_of (inserting n p text c) = Insert (record {
  place = p;
  site = n.site;
  len = cell_count text;
  name = n;
  own = refl;
  some = some_cells text;
  most = few_cells text;
})
form_of (deleting n p c) = Covered (record { place = p; mark = By n 0 })
form_of (undoing a t g c) = Covered (record { place = 0; mark = By t g })

abbrev pub original_form : List OpData → NameData → Form
original_form [] n = Covered (record { place = 0; mark = By n 0 })
original_form (o ∷ os) n = if member_eq (member_of o) (Original n) then form_of o else original_form os n

-- a group of an original with this form
abbrev pub group_form : Form → NameData → ℕ → Form
group_form (Insert a) t g = Covered (record { place = a.place; mark = Own g })
group_form (Covered d) t g = Covered (record { place = d.place; mark = By t g })

-- the base form of each member of a history
abbrev pub base_form : List OpData → Member → Form
base_form h (Original n) = original_form h n
base_form h (Group t g) = group_form (original_form h t) t g
