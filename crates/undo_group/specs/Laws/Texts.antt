-- What a family of base forms keeps, for the base forms of one history.
use Rattle.std.proofs.Common.{◌≡◌, ◌≢◌, ℕ, ◌+◌, ◌≤◌, false, List, [], ◌∷◌, inl, inr, refl, ap, ◌∙◌, arith}
use Rattle.op_name.specs.NameData.{NameData}
use Rattle.op_name.specs.declared.member.Member.{Member}
use Rattle.context_diff.specs.Operations.{OpData, inserting, deleting, undoing, member_of, cells_put}
use Rattle.context_diff.specs.Histories.{members_in, all_cells}
use Rattle.context_diff.specs.Bases.{base_has}
use Rattle.ttf_form.specs.declared.include.TheConstants.{CELLS}
use Rattle.ttf_form.specs.declared.form.Form.{Form}
use Rattle.ttf_form.specs.declared.form.Form.TheVariants.{Ins as Insert, Cover as Covered}
use Rattle.ttf_form.specs.Forms.{extent_of, IsBoundedForm, ApartForms}
use Rattle.ttf_form.specs.Families.{IsIn, sum_where, total_by}
use Rattle.undo_group.specs.BaseForms.{AreBaseForms, original_form, group_form, base_form}
use Rattle.undo_group.specs.Bounds.{IsShortHistory}
use Rattle.undo_group.specs.Laws.Forms.{base_forms_hold}
use Rattle.undo_group.specs.Laws.Inserts.{forms_apart}
use Rattle.undo_group.specs.Laws.Places.{forms_bounded}

pub base_forms_apart : (h : List OpData) (m x : Member) → IsShortHistory h → IsIn m (members_in h) → IsIn x (members_in h) → m ≢ x
    → base_has h m x ≡ false → base_has h x m ≡ false → ApartForms (base_form h m) (base_form h x)
base_forms_apart h m x s i j ne l k = forms_apart h s.valid (base_form h) (base_forms_hold h s.valid) m x i j ne l k

pub base_forms_bounded : (h : List OpData) (m : Member) → IsShortHistory h → IsIn m (members_in h)
    → IsBoundedForm (base_form h m) (sum_where (base_has h m) (λ x. extent_of (base_form h x)) (members_in h))
base_forms_bounded h m s i = forms_bounded h s.valid (base_form h) (base_forms_hold h s.valid) m i

-- the cells that the base forms of these operations add
module _ (h : List OpData) (forms : AreBaseForms h (base_form h)) where
  group_adds : (f : Form) (t : NameData) (g : ℕ) → extent_of (group_form f t g) ≡ 0
  group_adds (Insert a) t g = refl
  group_adds (Covered d) t g = refl

  form_adds : (o : OpData) → IsIn o h → extent_of (base_form h (member_of o)) ≡ cells_put o
  form_adds (inserting n p text c) i = let f = forms.inserts n p text c i in ap extent_of f.is ∙ f.len
  form_adds (deleting n p c) i = ap extent_of (forms.deletes n p c i).is
  form_adds (undoing a t g c) i = group_adds (original_form h t) t g

  forms_add : (os : List OpData) → ((o : OpData) → IsIn o os → IsIn o h)
      → total_by (λ x. extent_of (base_form h x)) (members_in os) ≡ all_cells os
  forms_add [] all = refl
  forms_add (o ∷ os) all = λ j. form_adds o (all o (inl refl)) j + forms_add os (λ p i. all p (inr i)) j

pub base_forms_total : (h : List OpData) → IsShortHistory h → total_by (λ x. extent_of (base_form h x)) (members_in h) ≤ CELLS
base_forms_total h s = omega (arith, s.short, forms_add h (base_forms_hold h s.valid) h (λ o i. i))
