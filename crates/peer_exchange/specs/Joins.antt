-- Joins of histories: one history takes in what it lacks of another, in the other's order.
use Rattle.std.specs.Prelude.{◌≡◌, ◌⊎◌, Bool, true, List, [], ◌∷◌, ◌++◌, ◌||◌, not, filter, Contains}
use Rattle.op_name.specs.declared.member.Member.{Member}
use Rattle.context_diff.specs.Operations.{OpData, member_of, is_original}
use Rattle.context_diff.specs.Histories.{is_known, IsValid, IsValidAfter, Same, Agree}
use Rattle.context_diff.specs.Replays.{text_of}

-- the operations whose member isn't among those known, in their order
abbrev pub unseen : (Member → Bool) → List OpData → List OpData
unseen knows os = filter (λ o. not (knows (member_of o))) os

-- the first history, and after it what it lacks of the second
abbrev pub joined : List OpData → List OpData → List OpData
joined h p = h ++ unseen (is_known h) p

-- Joined: the members of both and no others, and each original one of the two
pub record IsJoined (h p j : List OpData) : Type 0 where
  pub members : (m : Member) → is_known j m ≡ (is_known h m || is_known p m)
  pub originals : (o : OpData) → Contains j o → is_original o ≡ true → Contains h o ⊎ Contains p o

-- ---- The laws

-- of two valid histories that agree, each operation that the first lacks is next after it and those taken in before
abbrev pub LackedOperationsAreNext : Type 0
LackedOperationsAreNext = (h p : List OpData) → IsValid h → IsValid p → Agree h p → IsValidAfter h (unseen (is_known h) p)

-- both have the same operations, and show the same text
abbrev pub AreAlike : List OpData → List OpData → Type 0
AreAlike h p = Same h p × (text_of h ≡ text_of p)

-- valid histories that agree and have the same members are alike
abbrev pub EqualMembersAreAlike : Type 0
EqualMembersAreAlike = (h p : List OpData) → IsValid h → IsValid p → Agree h p → ((m : Member) → is_known h m ≡ is_known p m) → AreAlike h p

-- the join of valid histories is joined of both, whichever comes first; each of the two joins then has nothing that the other lacks
pub record AreJoined (h p : List OpData) : Type 0 where
  pub first : IsJoined h p (joined h p)
  pub second : IsJoined h p (joined p h)
  pub none_for_first : unseen (is_known (joined h p)) (joined p h) ≡ []
  pub none_for_second : unseen (is_known (joined p h)) (joined h p) ≡ []

abbrev pub BothSidesAreJoined : Type 0
BothSidesAreJoined = (h p : List OpData) → AreJoined h p

-- the join of valid histories that agree is a valid history
abbrev pub JoinsAreValid : Type 0
JoinsAreValid = (h p : List OpData) → IsValid h → IsValid p → Agree h p → IsValid (joined h p)

-- joining is commutative, as far as operations and text go
abbrev pub JoinsCommute : Type 0
JoinsCommute = (h p : List OpData) → IsValid h → IsValid p → Agree h p → AreAlike (joined h p) (joined p h)

-- and associative
abbrev pub JoinsAssociate : Type 0
JoinsAssociate =
    (h p l : List OpData)
    → IsValid h
    → IsValid p
    → IsValid l
    → Agree h p
    → Agree h l
    → Agree p l
    → AreAlike (joined (joined h p) l) (joined h (joined p l))

-- and idempotent
abbrev pub JoinsAreIdempotent : Type 0
JoinsAreIdempotent = (h : List OpData) → joined h h ≡ h

-- ---- Any exchanges between any sites

-- the histories of some sites: each is valid, and each two agree
pub record AreSound (hs : List (List OpData)) : Type 0 where
  pub valid : (h : List OpData) → Contains hs h → IsValid h
  pub agree : (h p : List OpData) → Contains hs h → Contains hs p → Agree h p

-- each later history was there, or is the join of two that were
abbrev pub IsExchanged : List (List OpData) → List (List OpData) → Type 0
IsExchanged hs js =
    (j : List OpData) → Contains js j → Contains hs j ⊎ ((h p : List OpData) × Contains hs h × Contains hs p × (j ≡ joined h p))

-- the histories of the sites after one exchange and another
abbrev pub AreExchanged : List (List OpData) → List (List (List OpData)) → Type 0
AreExchanged hs [] = Unit {0}
AreExchanged hs (js ∷ rest) = IsExchanged hs js × AreExchanged js rest

-- those after the last exchange
abbrev pub latest : List (List OpData) → List (List (List OpData)) → List (List OpData)
latest hs [] = hs
latest hs (js ∷ rest) = latest js rest

-- after any exchanges the histories are valid and agree, and those with the same members are alike
abbrev pub AnyExchangesMeet : Type 0
AnyExchangesMeet =
    (hs : List (List OpData)) (rounds : List (List (List OpData)))
    → AreSound hs
    → AreExchanged hs rounds
    → AreSound (latest hs rounds)
    × ((h p : List OpData) → Contains (latest hs rounds) h → Contains (latest hs rounds) p → ((m : Member) → is_known h m ≡ is_known p m)
    → AreAlike h p)
