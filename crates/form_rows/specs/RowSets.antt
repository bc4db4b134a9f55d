-- Rows: the forms of what a set of members lacks, and what a form and a row become where the form is brought over the row.
use Rattle.std.specs.Prelude.{◌≡◌, ◌≢◌, ℕ, ◌+◌, ◌-◌, ◌≤◌, Bool, true, false, List, [], ◌∷◌, ◌++◌, ◌⊎◌, length, nat_le, take, if◌then◌else◌}
use Rattle.op_name.specs.NameData.{NameData}
use Rattle.op_name.specs.declared.member.Member.{Member}
use Rattle.op_name.specs.declared.member.Member.TheVariants.{Original, Group}
use Rattle.ttf_form.specs.Families.{IsIn}
use Rattle.transform_rec.specs.Sets.{none, IsSubset, SameSet, plus, plus_all}
use Rattle.transform_rec.specs.Executing.{AreFormsFrom}
use Rattle.transform_rec.specs.Family.{Family, IsClosed}
use Rattle.transform_rec.specs.Derived.{Derived}

-- a form after the inclusion of the forms of a row, one after the other, each as it is in its place
abbrev pub form_after : {F : Type 0} → (F → F → F) → F → List F → F
form_after over f [] = f
form_after over f (k ∷ ks) = form_after over (over f k) ks

-- the forms of a row after the inclusion of a form, which is brought over each of them in turn
abbrev pub row_after : {F : Type 0} → (F → F → F) → F → List F → List F
row_after over f [] = []
row_after over f (k ∷ ks) = over k f ∷ row_after over (over f k) ks

-- what a form that comes after a row was before it
abbrev pub front_of : {F : Type 0} → (F → F → F) → F → List F → F
front_of back f [] = f
front_of back f (k ∷ ks) = back (front_of back f ks) k

-- the forms that don't pass the test
abbrev pub without : {F : Type 0} → (F → Bool) → List F → List F
without test [] = []
without test (f ∷ fs) = if test f then without test fs else f ∷ without test fs

-- each inclusion of a pass stays within the numbers of 32 bits
abbrev pub PassFits : {F : Type 0} → (F → F → F) → (F → ℕ) → (F → ℕ) → F → List F → Type 0
PassFits over place extent f [] = Unit {0}
PassFits over place extent f (k ∷ ks) =
    (place f + extent k ≤ 4294967295) × ((place k + extent f ≤ 4294967295) × PassFits over place extent (over f k) ks)

abbrev pub AfterFits : {F : Type 0} → (F → F → F) → (F → ℕ) → (F → ℕ) → F → List F → Type 0
AfterFits over place extent f [] = Unit {0}
AfterFits over place extent f (k ∷ ks) = (place f + extent k ≤ 4294967295) × AfterFits over place extent (over f k) ks

-- inert forms change none, and a form is inert exactly where it is so after an inclusion
pub record Inertness {F : Type 0} (over : F → F → F) (IsInert : F → Type 0) : Type 0 where
  pub law : (a b : F) → IsInert b → over a b ≡ a
  pub kept : (a b : F) → IsInert a → IsInert (over a b)
  pub back : (a b : F) → IsInert (over a b) → IsInert a

module _ {F : Type 0} (over : F → F → F) (IsInert : F → Type 0) (b : Family F) where
  -- the forms are those of the members of the list that C lacks and whose base forms aren't inert, each a derived one at C with
  -- the members of the list before it
  abbrev pub IsRow : (Member → Bool) → List Member → List F → Type 0
  IsRow C [] [] = Unit {0}
  IsRow C [] (f ∷ fs) = ⊥
  IsRow C (x ∷ xs) [] = ((C x ≡ true) × IsRow C xs []) ⊎ ((IsInert (b.form x) × ((k : F) × Derived over b x C k)) × IsRow (plus C x) xs [])
  IsRow C (x ∷ xs) (f ∷ fs) =
      ((C x ≡ true) × IsRow C xs (f ∷ fs))
      ⊎ (((IsInert (b.form x) × ((k : F) × Derived over b x C k)) × IsRow (plus C x) xs (f ∷ fs))
      ⊎ (((IsInert (b.form x) → ⊥) × Derived over b x C f) × IsRow (plus C x) xs fs))

-- the second list is the first without its inert forms
abbrev pub IsKept : {F : Type 0} → (F → Type 0) → List F → List F → Type 0
IsKept IsInert [] [] = Unit {0}
IsKept IsInert [] (g ∷ gs) = ⊥
IsKept IsInert (f ∷ fs) [] = IsInert f × IsKept IsInert fs []
IsKept IsInert (f ∷ fs) (g ∷ gs) = (IsInert f × IsKept IsInert fs (g ∷ gs)) ⊎ ((IsInert f → ⊥) × ((g ≡ f) × IsKept IsInert fs gs))

-- the forms of the first list that aren't inert were appended
pub record IsAdded {F : Type 0} (IsInert : F → Type 0) (forms old new : List F) : Type 0 where
  pub more : List F
  pub kept : IsKept IsInert forms more
  pub whole : new ≡ old ++ more

-- forms of the inserts that a set lacks, among the first members of a list, and how many of these were looked at
pub record RowData (F : Type 0) : Type 0 where
  pub forms : List F
  pub upto : ℕ

module _ {F : Type 0} (over : F → F → F) (IsInert : F → Type 0) (b : Family F) where
  -- the row is that of C over the list, as far as it has looked; C lies within that
  pub record IsRowAt (C : Member → Bool) (xs : List Member) (r : RowData F) : Type 0 where
    pub within : r.upto ≤ length xs
    pub part : IsSubset C (plus_all none (take r.upto xs))
    pub row : IsRow over IsInert b C (take r.upto xs) r.forms

  -- the list was executed in these forms, and m is to be executed after it; the row is that of m's base context
  pub record IsReady (m : Member) (C : Member → Bool) (xs : List Member) (forms : List F) (r : RowData F) : Type 0 where
    pub executed : AreFormsFrom over b none xs forms
    pub row : IsRowAt C xs r
    pub base : SameSet C (b.context m)
    pub listed : IsIn m b.members
    pub other : (z : Member) → IsIn z xs → m ≢ z

-- the member that a group follows: the group before it, or its original
abbrev pub leader_of : NameData → ℕ → Member
leader_of t g = if nat_le g 1 then Original t else Group t (g - 1)

-- the forms that are left of a row once those that pass the test were moved to the front, one after the other, and taken out; the
-- first list was looked at
abbrev pub taken_out : {F : Type 0} → (F → F → F) → (F → F → F) → (F → Bool) → List F → List F → List F
taken_out over back test gs [] = gs
taken_out over back test gs (f ∷ fs) =
    if test f then taken_out over back test (row_after over (front_of back f gs) gs) fs else taken_out over back test (gs ++ f ∷ []) fs

-- each inclusion on the way stays within the numbers of 32 bits
abbrev pub TakingFits : {F : Type 0} → (F → F → F) → (F → F → F) → (F → ℕ) → (F → ℕ) → (F → Bool) → List F → List F → Type 0
TakingFits over back place extent test gs [] = Unit {0}
TakingFits over back place extent test gs (f ∷ fs) =
    (test f ≡ true → PassFits over place extent (front_of back f gs) gs
    × TakingFits over back place extent test (row_after over (front_of back f gs) gs) fs)
    × (test f ≡ false → TakingFits over back place extent test (gs ++ f ∷ []) fs)

module _ {F : Type 0} (over : F → F → F) (IsInert : F → Type 0) (b : Family F) where
  -- the first members of the family were executed in these forms, and m, which has a base context within them, is to be executed
  -- after them; the row is that of a closed set of which m's base context has all but inert members
  pub record IsSource (m : Member) (C : Member → Bool) (xs : List Member) (forms : List F) (r : RowData F) : Type 0 where
    pub first : (more : List Member) × (b.members ≡ xs ++ more)
    pub executed : AreFormsFrom over b none xs forms
    pub row : IsRowAt over IsInert b C xs r
    pub closed : IsClosed b C
    pub near : (z : Member) → C z ≡ true → b.context m z ≡ false → IsInert (b.form z)
    pub listed : IsIn m b.members
    pub within : IsSubset (b.context m) (plus_all none xs)
    pub other : (z : Member) → IsIn z xs → m ≢ z
