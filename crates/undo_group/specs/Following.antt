-- Members whose forms follow that of another: a mark on the first cell that the other one adds, or on the cell that it marks.
use Rattle.std.specs.Prelude.{◌≡◌, ℕ, ◌+◌, ◌≤◌, true, List, ◌||◌}
use Rattle.op_name.specs.NameData.{NameData}
use Rattle.op_name.specs.declared.member.Member.{Member}
use Rattle.op_name.specs.declared.member.Member.TheVariants.{Original, Group}
use Rattle.op_name.specs.Members.{member_eq}
use Rattle.context_diff.specs.Operations.{OpData}
use Rattle.context_diff.specs.Histories.{is_known}
use Rattle.context_diff.specs.Bases.{base_has}
use Rattle.ttf_form.specs.declared.cover.Mark.{Mark}
use Rattle.ttf_form.specs.declared.cover.Mark.TheVariants.{Own, By}
use Rattle.ttf_form.specs.declared.form.Form.{Form}
use Rattle.ttf_form.specs.declared.form.Form.TheVariants.{Ins as Insert, Cover as Covered}
use Rattle.undo_group.specs.BaseForms.{original_form, base_form}

-- a mark on the first cell that a form adds, or on the cell that it marks
abbrev pub following : Mark → Form → Form
following m (Insert a) = Covered (record { place = a.place; mark = m })
following m (Covered c) = Covered (record { place = c.place; mark = m })

-- the mark that a group of an original with this form leaves
abbrev pub mark_of : Form → NameData → ℕ → Mark
mark_of (Insert a) t g = Own g
mark_of (Covered d) t g = By t g

-- in a history x follows m: its base context is that of m with m, and its base form is a mark at the place of m's
pub record Follows (h : List OpData) (mark : Mark) (m x : Member) : Type 0 where
  pub context : (y : Member) → base_has h x y ≡ (base_has h m y || member_eq m y)
  pub form : base_form h x ≡ following mark (base_form h m)

-- the first group of an original follows it
abbrev pub FirstGroupsFollow : Type 0
FirstGroupsFollow =
    (h : List OpData) (t : NameData) → is_known h (Original t) ≡ true → is_known h (Group t 1) ≡ true
    → Follows h (mark_of (original_form h t) t 1) (Original t) (Group t 1)

-- each further group of an original follows the one before it
abbrev pub FurtherGroupsFollow : Type 0
FurtherGroupsFollow =
    (h : List OpData) (t : NameData) (g : ℕ) → 1 ≤ g → is_known h (Group t g) ≡ true → is_known h (Group t (g + 1)) ≡ true
    → Follows h (mark_of (original_form h t) t (g + 1)) (Group t g) (Group t (g + 1))
