-- Differences of contexts in a history's order, and the laws of closed contexts.
use Rattle.std.specs.Prelude.{◌≡◌, ◌≢◌, true, false, List, [], ◌∷◌, ◌++◌, ◌&&◌, ◌⊎◌, not, filter, Contains}
use Rattle.op_name.specs.declared.member.Member.{Member}
use Rattle.context_vector.specs.Contexts.{ContextData, IsContext, Within, has}
use Rattle.context_vector.specs.Vectors.{lowered}
use Rattle.context_diff.specs.Operations.{OpData}
use Rattle.context_diff.specs.Histories.{members_in, IsValid}
use Rattle.context_diff.specs.Bases.{base_has}
use Rattle.context_diff.specs.ClosedContexts.{IsClosedContext, MayBeTakenOut}

-- the members of the one context that the other lacks, in the history's order
abbrev pub difference_of : List OpData → ContextData → ContextData → List Member
difference_of h from to = filter (λ y. has to y && not (has from y)) (members_in h)

-- The last member of a difference of closed contexts may be taken out of the greater one, which has the smaller one still.
abbrev pub LastMayBeTakenOut : Type 0
LastMayBeTakenOut =
    (h : List OpData) (from to : ContextData) (before : List Member) (m : Member)
    → IsValid h
    → IsContext to
    → IsClosedContext h from
    → IsClosedContext h to
    → Within from to
    → difference_of h from to ≡ before ++ m ∷ []
    → MayBeTakenOut h to m × Within from (lowered to m)

-- Two members of a context each of which may be taken out alone are unrelated, and may be taken out one after the other, in
-- either order; what is left is the same.
abbrev pub TwoMayBeTakenOut : Type 0
TwoMayBeTakenOut =
    (h : List OpData) (v : ContextData) (x y : Member)
    → IsValid h
    → IsContext v
    → x ≢ y
    → MayBeTakenOut h v x
    → MayBeTakenOut h v y
    → (base_has h x y ≡ false)
    × (base_has h y x ≡ false)
    × MayBeTakenOut h (lowered v x) y
    × MayBeTakenOut h (lowered v y) x
    × (lowered (lowered v x) y ≡ lowered (lowered v y) x)

-- A difference up to a closed context may be added one member after the other: the base context of each lies in the smaller
-- context with the members before it in the difference.
abbrev pub DifferenceIsReady : Type 0
DifferenceIsReady =
    (h : List OpData) (from to : ContextData) (before : List Member) (m : Member) (after : List Member)
    → IsValid h
    → IsClosedContext h to
    → difference_of h from to ≡ before ++ m ∷ after
    → (y : Member)
    → base_has h m y ≡ true
    → (has from y ≡ true) ⊎ Contains before y
