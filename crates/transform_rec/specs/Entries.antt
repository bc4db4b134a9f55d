-- Entries of a cache of forms over a family of members.
use Rattle.std.specs.Prelude.{◌≡◌, true, List, [], ◌∷◌, ◌++◌, Contains}
use Rattle.op_name.specs.declared.member.Member.{Member}
use Rattle.context_vector.specs.Contexts.{has}
use Rattle.context_diff.specs.Operations.{OpData}
use Rattle.context_diff.specs.Histories.{is_known, IsValid}
use Rattle.form_cache.specs.declared.cache.Kept.{Kept}
use Rattle.form_cache.specs.Keys.{KeyData}
use Rattle.form_cache.specs.Entries.{Entries}
use Rattle.transform_rec.specs.Family.{Family}
use Rattle.transform_rec.specs.Derived.{IsOnlyFormAt}
use Rattle.transform_rec.specs.Histories.{family_in}

-- each entry is the only form of its key's member at its key's context
abbrev pub AreForms : {F : Type 0} → (F → F → F) → Family F → Entries F → Type 0
AreForms {F} over b es = (e : KeyData × Kept F) → Contains es e → IsOnlyFormAt over b e.0.member (has e.0.context) e.1.form

-- the list without entries holds forms alone, over every family
abbrev pub NoEntriesAreForms : {F : Type 0} → (F → F → F) → Type 0
NoEntriesAreForms {F} over = (b : Family F) → AreForms over b []

-- entries that are forms over a history are forms over it with one operation more, if the base forms of its members stay
abbrev pub NextOperationKeepsForms : {F : Type 0} → (F → F → F) → Type 0
NextOperationKeepsForms {F} over =
    (h : List OpData) (o : OpData) (form other : Member → F) (es : Entries F) → IsValid (h ++ o ∷ [])
    → ((x : Member) → is_known h x ≡ true → form x ≡ other x)
    → AreForms over (family_in h form) es → AreForms over (family_in (h ++ o ∷ []) other) es
