-- Base contexts: the members of a history that a member was made after, whichever undo of a group came first.
use Rattle.std.specs.Prelude.{ℕ, ◌-◌, Bool, List, [], ◌∷◌, ◌&&◌, ◌||◌, nat_le, nat_lt, if◌then◌else◌}
use Rattle.op_name.specs.declared.member.Member.{Member}
use Rattle.op_name.specs.declared.member.Member.TheVariants.{Original, Group}
use Rattle.op_name.specs.NameData.{NameData, name_eq}
use Rattle.op_name.specs.Members.{member_eq}
use Rattle.context_vector.specs.Contexts.{ContextData, has, empty, raised}
use Rattle.context_diff.specs.Operations.{OpData, member_of, context_of}
use Rattle.context_diff.specs.Histories.{is_known}

-- the context of the operation of the history that is this original, empty if there is none
abbrev pub original_context : List OpData → NameData → ContextData
original_context [] n = empty
original_context (o ∷ os) n = if member_eq (member_of o) (Original n) then context_of o else original_context os n

-- the original itself, and its groups below a generation
abbrev pub is_below : NameData → ℕ → Member → Bool
is_below t g (Original n) = name_eq t n
is_below t g (Group n k) = name_eq t n && (nat_le 1 k && nat_lt k g)

-- what an original knew; and of a group what its original knew, that original, and the groups of it before this one
abbrev pub is_before : List OpData → Member → Member → Bool
is_before h (Original n) y = has (original_context h n) y
is_before h (Group t g) y = has (original_context h t) y || is_below t g y

-- the base context of a member, as a test; empty for a member that the history hasn't
abbrev pub base_has : List OpData → Member → Member → Bool
base_has h m y = is_known h m && is_before h m y

-- the base context of a member of the history, as a context
abbrev pub base_context_of : List OpData → Member → ContextData
base_context_of h (Original n) = original_context h n
base_context_of h (Group t g) =
    let c = raised (original_context h t) (Original t) in
    if nat_lt 1 g then raised c (Group t (g - 1)) else c
