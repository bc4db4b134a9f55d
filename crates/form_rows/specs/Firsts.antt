-- First members of a history whose inserts a context has.
use Rattle.std.specs.Prelude.{◌≡◌, ℕ, ◌-◌, ◌≤◌, true, List, Some, length, slice_get, take}
use Rattle.context_vector.specs.Contexts.{ContextData, has}
use Rattle.context_diff.specs.Operations.{OpData, member_of, context_of, is_insert}
use Rattle.ttf_form.specs.Families.{IsIn}
use Rattle.form_rows.specs.declared.first_members.FirstMembers.{FirstMembers}

-- the context has the inserts among the first k operations
abbrev pub HasFirst : List OpData → ContextData → ℕ → Type 0
HasFirst h c k = (o : OpData) → IsIn o (take k h) → is_insert o ≡ true → has c (member_of o) ≡ true

-- the context of the operation at this place has the inserts among so many first operations of the history
pub record AreFirstMembers (h : List OpData) (f : FirstMembers) : Type 0 where
  pub op : OpData
  pub at : slice_get h f.place ≡ Some op
  pub inserts : HasFirst h (context_of op) f.upto
  pub within : f.upto ≤ length h

-- the history has a last operation, which has this context
pub record IsLastContext (h : List OpData) (c : ContextData) : Type 0 where
  pub op : OpData
  pub at : slice_get h (length h - 1) ≡ Some op
  pub context : context_of op ≡ c
