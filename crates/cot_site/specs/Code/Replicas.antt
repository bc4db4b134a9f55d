-- An executed history: its forms, the cells that they give, and the entries of the cache.
use Rattle.std.specs.Prelude.{◌≡◌, ℕ, ◌-◌, Bool, true, List, [], ◌∷◌, ◌++◌, ◌≤◌, Option, Some, None, IfSome, length, slice_get, take}
use Rattle.op_name.specs.declared.member.Member.{Member}
use Rattle.op_name.specs.declared.member.Member.TheVariants.{Original}
use Rattle.op_name.specs.NameData.{NameData}
use Rattle.context_vector.specs.Contexts.{ContextData, has}
use Rattle.context_diff.specs.Operations.{OpData, context_of, is_original}
use Rattle.context_diff.specs.Histories.{context_of_all, members_in}
use Rattle.context_diff.specs.Bases.{base_has}
use Rattle.ttf_form.specs.declared.form.Form.{Form}
use Rattle.ttf_form.specs.Forms.{form_over, IsInertForm}
use Rattle.ttf_form.specs.Cells.{CellData, applied, text_put}
use Rattle.tombstone_text.specs.Cells.{CellsData}
use Rattle.form_cache.specs.Entries.{Entries}
use Rattle.transform_rec.specs.Sets.{none, SameSet, plus_all}
use Rattle.transform_rec.specs.Derived.{Derived}
use Rattle.transform_rec.specs.Executing.{executed}
use Rattle.transform_rec.specs.Histories.{family_in}
use Rattle.undo_group.specs.BaseForms.{base_form}
use Rattle.fixed_replay.specs.Replayed.{letters_of}
use Rattle.form_rows.specs.Firsts.{AreFirstMembers}
use Rattle.form_rows.specs.Kept.{RowsData, AreRows, IsExecutedBefore}
use Rattle.cot_site.specs.Sites.{AreExecuted, AreKeptOrGone}

-- the forms of a history, and the cells that they give one after the other
pub record IsExecuted (h : List OpData) (fs : List Form) (cs : List CellData) : Type 0 where
  pub forms : AreExecuted h fs
  pub cells : cs ≡ executed applied [] fs

-- the characters that an operation puts, where there is one
abbrev pub letters_at : Option OpData → List ℕ
letters_at None = []
letters_at (Some o) = letters_of o

-- the characters that the last operation of a history puts
abbrev pub last_letters : List OpData → List ℕ
last_letters h = letters_at (slice_get h (length h - 1))

-- one more form of a member at a set, appended and applied to the cells, with the characters of the last operation beside them
pub record IsStep (h : List OpData) (m : Member) (to : Member → Bool) (old new : List Form) (before after : CellsData) : Type 0 where
  pub form : Form
  pub derived : Derived form_over (family_in h (base_form h)) m to form
  pub appended : new ≡ old ++ form ∷ []
  pub cells : after.cells ≡ applied before.cells form
  pub text : after.text ≡ text_put form (last_letters h) before.text

-- the rows are those of what authors of the history knew, over its members, and the first members are found in it
abbrev pub AreRowsOf : List OpData → RowsData Form → Type 0
AreRowsOf h kept =
    AreRows form_over IsInertForm (family_in h (base_form h)) (members_in h) kept.rows × IfSome kept.firsts (AreFirstMembers h)

-- m is the last member of the history; those before it, which are the set, were executed in these forms, and the rows are theirs
pub record IsNextAfter (h : List OpData) (m : Member) (to : Member → Bool) (fs : List Form) (kept : RowsData Form) : Type 0 where
  pub before : List Member
  pub executed : IsExecutedBefore h m before fs kept
  pub set : SameSet (plus_all none before) to

-- the members before the last operation of a history
abbrev pub before_last : List OpData → ContextData
before_last h = context_of_all (take (length h - 1) h)

-- the operation, if it is an original, was made after just these members
abbrev pub KnowsAll : ContextData → OpData → Type 0
KnowsAll c o = is_original o ≡ true → context_of o ≡ c

-- the last member, if it is an original, was made after just the members before it
abbrev pub KnowsBefore : List OpData → Member → Type 0
KnowsBefore h m = (n : NameData) (y : Member) → m ≡ Original n → has (before_last h) y ≡ base_has h m y

-- m is the member of the last operation
abbrev pub IsLastMember : List OpData → Member → Type 0
IsLastMember h m = (1 ≤ length h) × (slice_get (members_in h) (length h - 1) ≡ Some m)

-- an executed history, with the entries of a cache
pub record ReplicaData : Type 0 where
  pub history : List OpData
  pub forms : List Form
  pub entries : Entries Form

-- the history and its forms are as before; the entries of the cache are the old ones, or none
abbrev pub IsExecutedAsBefore : ReplicaData → ReplicaData → Type 0
IsExecutedAsBefore old new = (new.history ≡ old.history) × (new.forms ≡ old.forms) × AreKeptOrGone old.entries new.entries
