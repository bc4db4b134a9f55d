-- The laws of rows, over every type of forms and every family of members.
use Rattle.std.specs.Prelude.{◌≡◌, ◌≢◌, Bool, true, false, List, ◌∷◌, ◌++◌}
use Rattle.op_name.specs.declared.member.Member.{Member}
use Rattle.ttf_form.specs.Families.{IsIn}
use Rattle.transform_rec.specs.Sets.{none, SameSet, plus, plus_all}
use Rattle.transform_rec.specs.Family.{Family, IsClosed, IsSound}
use Rattle.transform_rec.specs.Derived.{Derived, Inclusion}
use Rattle.transform_rec.specs.Executing.{AreFormsFrom}
use Rattle.std.specs.Prelude.{ℕ, ◌+◌, ◌≤◌, [], length, take}
use Rattle.op_name.specs.NameData.{NameData}
use Rattle.op_name.specs.declared.member.Member.TheVariants.{Original, Group}
use Rattle.context_diff.specs.Operations.{OpData}
use Rattle.context_diff.specs.Histories.{is_known}
use Rattle.transform_rec.specs.Histories.{family_in}
use Rattle.undo_group.specs.BaseForms.{original_form, base_form}
use Rattle.undo_group.specs.Following.{following, mark_of}
use Rattle.form_rows.specs.RowSets.{form_after, row_after, front_of, IsRow, IsRowAt}

-- a form follows another through each inclusion
abbrev pub IsFollowing : {F : Type 0} → Inclusion F → (F → F) → Type 0
IsFollowing {F} i follow = (f k : F) → i.Apart f k → i.over (follow f) (i.over k f) ≡ follow (i.over f k)

-- a member follows another: its base context is that of the other with it, and its base form follows the other's
pub record IsFollower {F : Type 0} (b : Family F) (follow : F → F) (m x : Member) : Type 0 where
  pub listed : IsIn x b.members
  pub context : SameSet (b.context x) (plus (b.context m) m)
  pub form : b.form x ≡ follow (b.form m)

-- the form of a member that follows another one, where the other was executed before some members
abbrev pub FollowersFollow : {F : Type 0} → Inclusion F → Family F → Type 0
FollowersFollow {F} i b =
    (follow : F → F) (m x : Member) (before after : List Member) (C : Member → Bool) (f : F) (gs : List F) → IsFollowing i follow
    → IsFollower b follow m x
    → plus_all C before x ≡ false → ((z : Member) → IsIn z after → x ≢ z) → AreFormsFrom i.over b (plus_all C before) (m ∷ after) (f ∷ gs)
    → Derived i.over b x (plus_all C (before ++ (m ∷ after))) (form_after i.over (follow f) gs)

-- a member after a list may be moved in front of it, if its base context is in the set
abbrev pub MembersMoveToTheFront : {F : Type 0} → Inclusion F → (F → Type 0) → (F → F → F) → Family F → Type 0
MembersMoveToTheFront {F} i IsInert back b =
    (y : Member) (xs ys : List Member) (C : Member → Bool) (f : F) (fs gs : List F) → ((z : Member) → IsIn z xs → y ≢ z) → IsSound b y C
    → Derived i.over b y (plus_all C xs) f
    → IsRow i.over IsInert b C xs fs → IsRow i.over IsInert b (plus (plus_all C xs) y) ys gs
    → Derived i.over b y C (front_of back f fs)
    × IsRow i.over IsInert b (plus C y) (xs ++ (y ∷ ys)) (row_after i.over (front_of back f fs) fs ++ gs)

-- closed sets that differ by inert members alone have one row over the family's members
abbrev pub AlikeSetsHaveOneRow : {F : Type 0} → Inclusion F → (F → Type 0) → Family F → Type 0
AlikeSetsHaveOneRow {F} i IsInert b =
    (C E : Member → Bool) (fs : List F) → IsClosed b C → IsClosed b E → ((z : Member) → C z ≡ true → E z ≡ false → IsInert (b.form z))
    → ((z : Member) → E z ≡ true → C z ≡ false → IsInert (b.form z))
    → IsRow i.over IsInert b C b.members fs → IsRow i.over IsInert b E b.members fs

-- a first group of a history follows its original, and each further one the group before it
abbrev pub GroupsFollow : Type 0
GroupsFollow =
    ((h : List OpData) (t : NameData) → is_known h (Original t) ≡ true → is_known h (Group t 1) ≡ true
    → IsFollower (family_in h (base_form h)) (following (mark_of (original_form h t) t 1)) (Original t) (Group t 1))
    × ((h : List OpData) (t : NameData) (g : ℕ) → 1 ≤ g → is_known h (Group t g) ≡ true → is_known h (Group t (g + 1)) ≡ true
    → IsFollower (family_in h (base_form h)) (following (mark_of (original_form h t) t (g + 1))) (Group t g) (Group t (g + 1)))

-- a form that is brought over a row becomes its member's form after the row, and the row becomes that of the set with the member
abbrev pub PassesKeepRows : {F : Type 0} → Inclusion F → (F → Type 0) → Family F → Type 0
PassesKeepRows {F} i IsInert b =
    (m : Member) (xs : List Member) (C : Member → Bool) (f : F) (fs : List F) → ((z : Member) → IsIn z xs → m ≢ z) → Derived i.over b m C f
    → IsRow i.over IsInert b C xs fs
    → Derived i.over b m (plus_all C xs) (form_after i.over f fs) × IsRow i.over IsInert b (plus C m) xs (row_after i.over f fs)

-- a row without forms that has looked at the first members of a list is the row of these
abbrev pub FirstMembersHaveRows : {F : Type 0} → Inclusion F → (F → Type 0) → Family F → Type 0
FirstMembersHaveRows {F} i IsInert b =
    (k : ℕ) (xs : List Member) → k ≤ length xs → IsRowAt i.over IsInert b (plus_all none (take k xs)) xs (record { forms = []; upto = k })
