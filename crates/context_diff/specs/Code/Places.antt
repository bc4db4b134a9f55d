-- Places of members in a history's order.
use Rattle.std.specs.Prelude.{◌≡◌, ℕ, zero, suc, ◌+◌, Bool, false, List, [], ◌∷◌, ◌==◌, ◌&&◌, not, nat_lt, nat_le, take, Some, None, slice_get, if◌then◌else◌}
use Rattle.op_name.specs.declared.member.Member.{Member}
use Rattle.op_name.specs.declared.member.Member.TheVariants.{Original, Group}
use Rattle.op_name.specs.NameData.{NameData, name_eq}
use Rattle.context_vector.specs.Contexts.{ContextData, has}

-- how often a number stands in a list
abbrev pub times : ℕ → List ℕ → ℕ
times p [] = 0
times p (q ∷ qs) = (if q == p then 1 else 0) + times p qs

-- whether the member at this place passes the test; there is none past the end
abbrev pub passes_at : (Member → Bool) → List Member → ℕ → Bool
passes_at t [] p = false
passes_at t (m ∷ ms) zero = t m
passes_at t (m ∷ ms) (suc p) = passes_at t ms p

-- the numbers are the places of the members that pass, each once, in whatever order
abbrev pub ArePlacesOf : List Member → (Member → Bool) → List ℕ → Type 0
ArePlacesOf ms t ps = (p : ℕ) → times p ps ≡ (if passes_at t ms p then 1 else 0)

-- the members at these places
abbrev pub members_at : List Member → List ℕ → List Member
members_at ms [] = []
members_at ms (p ∷ ps) = elim (slice_get ms p) [ None ↦ members_at ms ps | Some m ↦ m ∷ members_at ms ps ]

-- the originals of the site with numbers above the first bound, up to the second
abbrev pub is_between : ℕ → ℕ → ℕ → Member → Bool
is_between s low high (Original n) = (n.site == s) && (nat_lt low n.number && nat_le n.number high)
is_between s low high (Group t g) = false

-- the groups of the name with generations above the first bound, up to the second
abbrev pub is_group_between : NameData → ℕ → ℕ → Member → Bool
is_group_between t low high (Original n) = false
is_group_between t low high (Group n g) = name_eq n t && (nat_lt low g && nat_le g high)

-- the members of the one context that the other lacks
abbrev pub is_missing : ContextData → ContextData → Member → Bool
is_missing from to y = has to y && not (has from y)

-- the originals of the first sites of a context
abbrev pub first_sites : ContextData → ℕ → ContextData
first_sites c i = record { counts = take i c.counts; entries = [] }

-- all originals of a context, and the groups of its first names
abbrev pub first_names : ContextData → ℕ → ContextData
first_names c i = record { counts = c.counts; entries = take i c.entries }
