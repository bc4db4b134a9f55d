-- The laws of listings and digests.
use Rattle.std.specs.Prelude.{◌≡◌, ◌↔◌, ℕ, true, List, [], ◌∷◌, Contains, Some}
use Rattle.op_name.specs.declared.member.Member.{Member}
use Rattle.op_name.specs.Members.{member_lt}
use Rattle.op_name.specs.NameData.{NameData}
use Rattle.context_vector.specs.Contexts.{ContextData}
use Rattle.context_diff.specs.Operations.{OpData, deleting}
use Rattle.context_diff.specs.Histories.{IsValid, Same, is_known, context_of_all}
use Rattle.context_diff.specs.Replays.{Cell, hits}
use Rattle.log_listings.specs.Originals.{cell_hit}
use Rattle.log_listings.specs.Digests.{members_of, history_bytes}

-- each member of the list is before all behind it
abbrev pub AreRising : List Member → Type 0
AreRising [] = Unit {0}
AreRising (m ∷ ms) = ((k : Member) → Contains ms k → member_lt m k ≡ true) × AreRising ms

-- a delete hits the cell that is told of it, and no other
abbrev pub OneHit : Type 0
OneHit = (h : List OpData) (n : NameData) (p : ℕ) (k : ContextData) (c : Cell)
    → (hits h (deleting n p k) c ≡ true) ↔ (cell_hit h p k ≡ Some c)

-- the members that are hashed are those of the history, each once, in the order of members
abbrev pub MembersAreListed : Type 0
MembersAreListed =
    (h : List OpData) → IsValid h
    → AreRising (members_of (context_of_all h)) × ((m : Member) → Contains (members_of (context_of_all h)) m ↔ (is_known h m ≡ true))

-- histories of the same operations, in whatever order they came, have the same bytes
abbrev pub SameOperationsSameBytes : Type 0
SameOperationsSameBytes = (h k : List OpData) → IsValid h → IsValid k → Same h k → history_bytes h ≡ history_bytes k

-- histories that have the same bytes have the same operations
abbrev pub SameBytesSameOperations : Type 0
SameBytesSameOperations = (h k : List OpData) → IsValid h → IsValid k → history_bytes h ≡ history_bytes k → Same h k
