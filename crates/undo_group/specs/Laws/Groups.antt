-- Groups follow the member before them, and the forms of followers follow through each inclusion.
use Rattle.std.proofs.Common.{◌≡◌, ℕ, ◌+◌, ◌≤◌, Bool, true, false, ◌&&◌, ◌||◌, ◌==◌, nat_le, nat_lt, List, refl, ap, arith}
use Rattle.std.proofs.lemmas.Bool.Decides.{nat_tests}
use Rattle.op_name.specs.NameData.{NameData, name_eq}
use Rattle.op_name.specs.declared.member.Member.{Member}
use Rattle.op_name.specs.declared.member.Member.TheVariants.{Original, Group}
use Rattle.op_name.specs.Members.{member_eq}
use Rattle.context_vector.specs.Contexts.{has}
use Rattle.context_diff.specs.Operations.{OpData}
use Rattle.context_diff.specs.Histories.{is_known}
use Rattle.context_diff.specs.Bases.{original_context, is_below}
use Rattle.ttf_form.specs.declared.cover.Mark.{Mark}
use Rattle.ttf_form.specs.declared.form.Form.{Form}
use Rattle.ttf_form.specs.declared.form.Form.TheVariants.{Ins as Insert, Cover as Covered}
use Rattle.ttf_form.specs.Forms.{ins_extent, ApartForms, form_over}
use Rattle.ttf_form.specs.Laws.Places.{cell_follows}
use Rattle.undo_group.specs.BaseForms.{original_form, group_form}
use Rattle.undo_group.specs.Following.{following, mark_of, Follows}

-- what was included in both, a mark on the cell of a form is a mark on the cell of what the form has become
pub form_follows : (m : Mark) (f k : Form) → ApartForms f k → form_over (following m f) (form_over k f) ≡ following m (form_over f k)
form_follows m (Insert a) (Insert b) ne =
    ap (λ p. Covered (record { place = p; mark = m }))
    (cell_follows a.place a.site b.place b.site (ins_extent b) (ins_extent a) ne a.some)
form_follows m (Insert a) (Covered d) ne = refl
form_follows m (Covered c) (Insert b) ne = refl
form_follows m (Covered c) (Covered d) ne = refl

-- the base form of a group is a mark on the cell of its original's, and on that of any other group's
first_marks : (f : Form) (t : NameData) (g : ℕ) → group_form f t g ≡ following (mark_of f t g) f
first_marks (Insert a) t g = refl
first_marks (Covered d) t g = refl

next_marks : (f : Form) (t : NameData) (g k : ℕ) → group_form f t k ≡ following (mark_of f t k) (group_form f t g)
next_marks (Insert a) t g k = refl
next_marks (Covered d) t g k = refl

-- below generation 1 there is the original alone
none_below : (a : Bool) (k : ℕ) → (a && (nat_le 1 k && nat_lt k 1)) ≡ false
none_below a k = grind (arith, nat_tests)

below_first : (t : NameData) (y : Member) → is_below t 1 y ≡ member_eq (Original t) y
below_first t (Original n) = refl
below_first t (Group n k) = none_below (name_eq t n) k

or_nothing : (a : Bool) → a ≡ (a || false)
or_nothing true = refl
or_nothing false = refl

one_more : (a : Bool) (g k : ℕ) → 1 ≤ g → (a && (nat_le 1 k && nat_lt k (g + 1))) ≡ ((a && (nat_le 1 k && nat_lt k g)) || (a && (g == k)))
one_more a g k h = grind (arith, nat_tests)

below_next : (t : NameData) (g : ℕ) (y : Member) → 1 ≤ g → is_below t (g + 1) y ≡ (is_below t g y || member_eq (Group t g) y)
below_next t g (Original n) h = or_nothing (name_eq t n)
below_next t g (Group n k) h = one_more (name_eq t n) g k h

set_parts : (a p q r s : Bool) → p ≡ true → q ≡ true → r ≡ s → (p && (a || r)) ≡ ((q && a) || s)
set_parts a p q r s ep eq er = grind arith

set_more : (a p q r s u : Bool) → p ≡ true → q ≡ true → r ≡ (s || u) → (p && (a || r)) ≡ ((q && (a || s)) || u)
set_more a p q r s u ep eq er = grind arith

pub first_follower : (h : List OpData) (t : NameData) → is_known h (Original t) ≡ true → is_known h (Group t 1) ≡ true
    → Follows h (mark_of (original_form h t) t 1) (Original t) (Group t 1)
first_follower h t before known = record {
  context =
      λ y. set_parts (has (original_context h t) y) (is_known h (Group t 1)) (is_known h (Original t)) (is_below t 1 y)
      (member_eq (Original t) y) known before (below_first t y);
  form = first_marks (original_form h t) t 1;
}

pub next_follower : (h : List OpData) (t : NameData) (g : ℕ) → 1 ≤ g → is_known h (Group t g) ≡ true → is_known h (Group t (g + 1)) ≡ true
    → Follows h (mark_of (original_form h t) t (g + 1)) (Group t g) (Group t (g + 1))
next_follower h t g least before known = record {
  context =
      λ y. set_more (has (original_context h t) y) (is_known h (Group t (g + 1))) (is_known h (Group t g)) (is_below t (g + 1) y)
      (is_below t g y) (member_eq (Group t g) y) known before (below_next t g y least);
  form = next_marks (original_form h t) t g (g + 1);
}
