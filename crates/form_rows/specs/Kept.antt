-- The rows that a site keeps, one for each author.
use Rattle.std.specs.Prelude.{◌≡◌, ℕ, ◌+◌, ◌≤◌, true, false, List, [], ◌∷◌, ◌++◌, ◌⊎◌, Option, Some, None, Contains, IfSome, length}
use Rattle.op_name.specs.NameData.{NameData}
use Rattle.context_vector.specs.Contexts.{ContextData, has}
use Rattle.op_name.specs.declared.member.Member.{Member}
use Rattle.op_name.specs.declared.member.Member.TheVariants.{Original}
use Rattle.context_diff.specs.Operations.{OpData, member_of, cells_put, is_insert}
use Rattle.context_diff.specs.Histories.{members_in}
use Rattle.ttf_form.specs.declared.form.Form.{Form}
use Rattle.ttf_form.specs.Forms.{form_over, IsInertForm}
use Rattle.ttf_form.specs.Families.{IsIn}
use Rattle.transform_rec.specs.Sets.{none, IsSubset, plus}
use Rattle.transform_rec.specs.Family.{Family}
use Rattle.transform_rec.specs.Derived.{IsOnlyFormAt}
use Rattle.transform_rec.specs.Executing.{AreFormsFrom}
use Rattle.transform_rec.specs.Histories.{family_in}
use Rattle.undo_group.specs.BaseForms.{base_form}
use Rattle.form_rows.specs.RowSets.{RowData, IsRowAt}
use Rattle.form_rows.specs.Firsts.{AreFirstMembers, HasFirst}
use Rattle.form_rows.specs.declared.rows.AuthorRow.{AuthorRow}
use Rattle.form_rows.specs.declared.first_members.FirstMembers.{FirstMembers}

-- rows, at most one for each author, and the first members that were found last
pub record RowsData (F : Type 0) : Type 0 where
  pub rows : List (AuthorRow F)
  pub firsts : Option FirstMembers

-- no rows, and no first members that were found
abbrev pub empty_rows : {F : Type 0} → RowsData F
empty_rows = record { rows = []; firsts = None }

module _ {F : Type 0} (over : F → F → F) (IsInert : F → Type 0) (b : Family F) where
  -- over the list, the row of what an original's author knew, with that original
  pub record IsAuthorRow (xs : List Member) (k : AuthorRow F) : Type 0 where
    pub listed : IsIn (Original k.last) xs
    pub row : IsRowAt over IsInert b (plus (b.context (Original k.last)) (Original k.last)) xs k.row

  abbrev pub AreRows : List Member → List (AuthorRow F) → Type 0
  AreRows xs rows = (k : AuthorRow F) → Contains rows k → IsAuthorRow xs k

  -- m is the last member of the family; those before it were executed in these forms, and the rows are theirs
  pub record IsLast (m : Member) (before : List Member) (executed : List F) (rows : List (AuthorRow F)) : Type 0 where
    pub whole : b.members ≡ before ++ m ∷ []
    pub forms : AreFormsFrom over b none before executed
    pub known : AreRows before rows

-- a form of an insert that was made within m's base context with m, and so its form there
abbrev pub IsFormWith : {F : Type 0} → (F → F → F) → (F → Option NameData) → Family F → Member → F → Type 0
IsFormWith over named b m f =
    (x : NameData) → named f ≡ Some x → IsSubset (b.context (Original x)) (plus (b.context m) m)
    → IsOnlyFormAt over b (Original x) (plus (b.context m) m) f

-- the row of first members, at most so many, whose inserts the context has
abbrev pub IsFirstRow : {F : Type 0} → List OpData → ContextData → ℕ → RowData F → Type 0
IsFirstRow h c most r = (r.forms ≡ []) × (r.upto ≤ most) × HasFirst h c r.upto

-- the row of an author whose last original the context has
abbrev pub IsOwnRow : {F : Type 0} → ContextData → Option (AuthorRow F) → RowData F → Type 0
IsOwnRow {F} c own r = (k : AuthorRow F) × (own ≡ Some k) × (has c (Original k.last) ≡ true) × (r ≡ k.row)

-- the row of an author whose last original the context has, or that of first members
abbrev pub IsBeginning : {F : Type 0} → List (AuthorRow F) → List OpData → ContextData → ℕ → RowData F → Type 0
IsBeginning {F} rows h c most r =
    ((k : AuthorRow F) × (Contains rows k × (has c (Original k.last) ≡ true)) × (r ≡ k.row)) ⊎ IsFirstRow h c most r

-- the number of forms in all rows
abbrev pub forms_in : {F : Type 0} → List (AuthorRow F) → ℕ
forms_in [] = 0
forms_in (k ∷ ks) = length k.row.forms + forms_in ks

-- the base form of an insert isn't inert, and adds the cells that the insert puts
abbrev pub InsertsAreKept : {F : Type 0} → (F → Type 0) → (F → ℕ) → (Member → F) → List OpData → Type 0
InsertsAreKept IsInert extent form h =
    (o : OpData) → IsIn o h → is_insert o ≡ true → (IsInert (form (member_of o)) → ⊥) × (extent (form (member_of o)) ≡ cells_put o)

-- the base form of an operation that is no insert is inert
abbrev pub CoversAreInert : {F : Type 0} → (F → Type 0) → (Member → F) → List OpData → Type 0
CoversAreInert IsInert form h = (o : OpData) → IsIn o h → is_insert o ≡ false → IsInert (form (member_of o))

-- m is the last member of the history; those before it were executed in these forms, and the rows are theirs
pub record IsExecutedBefore (h : List OpData) (m : Member) (before : List Member) (executed : List Form) (kept : RowsData Form) : Type 0
  where
    pub whole : members_in h ≡ before ++ m ∷ []
    pub forms : AreFormsFrom form_over (family_in h (base_form h)) none before executed
    pub rows : AreRows form_over IsInertForm (family_in h (base_form h)) before kept.rows
    pub firsts : IfSome kept.firsts (AreFirstMembers h)
