-- Notes: forms that were found while an operation was executed, each at a set of members that the history tells.
use Rattle.std.specs.Prelude.{◌≡◌, ℕ, ◌+◌, ◌<◌, Bool, false, List, [], ◌∷◌, Contains, Option, Some, None, length, map, slice_get, take, if◌then◌else◌}
use Rattle.op_name.specs.NameData.{NameData}
use Rattle.op_name.specs.declared.member.Member.{Member}
use Rattle.op_name.specs.declared.member.Member.TheVariants.{Original}
use Rattle.context_vector.specs.Contexts.{ContextData, empty, has, raised}
use Rattle.context_diff.specs.Operations.{OpData, member_of, context_of}
use Rattle.context_diff.specs.Histories.{context_of_all, members_in}
use Rattle.ttf_form.specs.declared.form.Form.{Form}
use Rattle.form_cache.specs.declared.cache.Kept.{Kept}
use Rattle.form_cache.specs.Keys.{KeyData, key_eq}
use Rattle.form_cache.specs.Entries.{Entries}
use Rattle.cot_site.specs.Sites.{AreCached}
use Rattle.cot_site.specs.declared.notes.At.{At}
use Rattle.cot_site.specs.declared.notes.At.TheVariants.{Before, With}
use Rattle.cot_site.specs.declared.notes.Note.{Note}

-- the place of the operation that tells the set
abbrev pub teller : At → ℕ
teller (Before i) = i
teller (With i) = i

-- the context of an operation with the operation itself
abbrev pub with_itself : Option OpData → ContextData
with_itself None = empty
with_itself (Some o) = raised (context_of o) (member_of o)

-- the set itself, over a history
abbrev pub set_at : List OpData → At → ContextData
set_at h (Before i) = context_of_all (take i h)
set_at h (With i) = with_itself (slice_get h i)

-- the note of a form of an original at a set
abbrev pub note_of : NameData → At → Form → Note
note_of n at f = record { name = n; at = at; form = f }

-- what a cache would have of the note: its original at its set, with the form
abbrev pub entry_of : List OpData → Note → KeyData × Kept Form
entry_of h n = (record { member = Original n.name; context = set_at h n.at }, record { form = n.form; once = false })

abbrev pub entries_of : List OpData → List Note → Entries Form
entries_of h ns = map (entry_of h) ns

-- the set of each note is told by an operation of the history
abbrev pub AreTold : List OpData → List Note → Type 0
AreTold h ns = (n : Note) → Contains ns n → teller n.at < length h

-- the place of the first note of the key, of those from place i on
abbrev pub first_of : List OpData → KeyData → ℕ → List Note → Option ℕ
first_of h k i [] = None
first_of h k i (n ∷ ns) = if key_eq k (entry_of h n).0 then Some i else first_of h k (i + 1) ns

-- whether the context of an operation has a member
abbrev pub knew : Option OpData → Member → Bool
knew None m = false
knew (Some o) m = has (context_of o) m

-- two sets both have the member at this place of a history, or neither has
abbrev pub AgreeAt : List OpData → ContextData → ContextData → ℕ → Type 0
AgreeAt h c d i = (m : Member) → slice_get (members_in h) i ≡ Some m → has c m ≡ has d m

-- each note is the form of its original at its set, and an operation of the history tells that set
abbrev pub AreFormsNoted : List OpData → List Note → Type 0
AreFormsNoted h ns = AreCached h (entries_of h ns) × AreTold h ns
