-- A site as contracts see it: its state, the forms in which its history was executed, and the entries of its cache.
use Rattle.std.specs.Prelude.{◌≡◌, ◌⊎◌, ℕ, List, [], Contains, Option, Some, None, length, take}
use Rattle.context_diff.specs.Operations.{OpData, IsWellFormed}
use Rattle.context_diff.specs.Histories.{members_in}
use Rattle.ttf_form.specs.declared.form.Form.{Form}
use Rattle.ttf_form.specs.Forms.{form_over}
use Rattle.context_vector.specs.Contexts.{has}
use Rattle.form_cache.specs.Keys.{KeyData}
use Rattle.form_cache.specs.Entries.{Entries}
use Rattle.transform_rec.specs.Sets.{none}
use Rattle.transform_rec.specs.Derived.{IsOnlyFormAt}
use Rattle.transform_rec.specs.Entries.{AreForms}
use Rattle.transform_rec.specs.Executing.{AreFormsFrom}
use Rattle.transform_rec.specs.Histories.{family_in}
use Rattle.undo_group.specs.BaseForms.{base_form}
use Rattle.context_diff.specs.declared.op.Op.{Op}
use Rattle.context_diff.specs.Ops.{data_of}
use Rattle.site_answers.specs.declared.verdict.Verdict.{Verdict}
use Rattle.cot_site.specs.States.{State, Released}

-- each operation's form is a derived form of it at the members before it (COT 2009: an operation is executed in its form at
-- the state that the site has reached)
abbrev pub AreExecuted : List OpData → List Form → Type 0
AreExecuted h fs = AreFormsFrom form_over (family_in h (base_form h)) none (members_in h) fs

-- over this history, f is the only derived form of the key's member at the key's context
abbrev pub IsFormOf : List OpData → KeyData → Form → Type 0
IsFormOf h k f = IsOnlyFormAt form_over (family_in h (base_form h)) k.member (has k.context) f

-- over this history, each entry is the form of its key
abbrev pub AreCached : List OpData → Entries Form → Type 0
AreCached h es = AreForms form_over (family_in h (base_form h)) es

-- a state, with the form of each operation of its history, and the entries of the cache, which are no part of the state
pub record SiteData : Type 0 where
  pub number : ℕ
  pub history : List OpData
  pub waiting : List OpData
  pub forms : List Form
  pub entries : Entries Form

abbrev pub state_of : SiteData → State
state_of s = record { number = s.number; history = s.history; waiting = s.waiting }

-- the entries of a cache are the old ones, or none
abbrev pub AreKeptOrGone : Entries Form → Entries Form → Type 0
AreKeptOrGone old new = (new ≡ old) ⊎ (new ≡ [])

-- the state and the executed forms are as before; the entries of the cache are the old ones, or none
abbrev pub IsAsBefore : SiteData → SiteData → Type 0
IsAsBefore old new = (state_of new ≡ state_of old) × (new.forms ≡ old.forms) × AreKeptOrGone old.entries new.entries

-- the old forms are the first of the new ones
abbrev pub KeepsForms : List Form → List Form → Type 0
KeepsForms old new = take (length old) new ≡ old

-- the answer tells the released operation with its verdict, or that there is none
abbrev pub IsRelease : Option Released → Option (Op × Verdict) → Type 0
IsRelease None None = Unit {0}
IsRelease None (Some p) = ⊥
IsRelease (Some r) None = ⊥
IsRelease (Some r) (Some p) = (r.op ≡ data_of p.0) × (r.verdict ≡ p.1)

-- all are well formed
abbrev pub AllFormed : List OpData → Type 0
AllFormed w = (o : OpData) → Contains w o → IsWellFormed o
