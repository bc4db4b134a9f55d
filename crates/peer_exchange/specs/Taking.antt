-- Taking in operations that a peer sent: a participant takes in each one whose member the history has then, and the first other one
-- ends it.
use Rattle.std.specs.Prelude.{◌≡◌, ◌⊎◌, if◌then◌else◌, false, List, [], ◌∷◌, ◌++◌, Result, Ok, Err}
use Rattle.op_name.specs.declared.member.Member.{Member}
use Rattle.context_diff.specs.Operations.{OpData, member_of, IsWellFormed}
use Rattle.context_diff.specs.Histories.{IsValid, IsValidAfter, Agree, is_known}
use Rattle.site_answers.specs.declared.release.Release.{Release}
use Rattle.site_answers.specs.declared.verdict.Verdict.{Verdict}
use Rattle.cot_site.specs.States.{State, judged}
use Rattle.cot_site.specs.Releases.{IsSound, IsLater}
use Rattle.cot_site.specs.Sites.{AllFormed}
use Rattle.participant.specs.declared.taking.Taking.TheVariants.{Had}
use Rattle.participant.specs.declared.taking.Untaken.TheVariants.{Unsettled}
use Rattle.participant.specs.Reached.{from}
use Rattle.participant.specs.Taking as one
use Rattle.peer_exchange.specs.Joins.{unseen, joined}

-- why an operation isn't taken in: its member, and its verdict
pub record Refusal : Type 0 where
  pub member : Member
  pub verdict : Verdict

abbrev pub refused : OpData → Verdict → Refusal
refused o v = record { member = member_of o; verdict = v }

-- the state after a participant took in one operation
abbrev pub with_taken : State → OpData → State
with_taken s o = (one.taken_in Had (from s) o).state

-- AllTakenIn: the state after these operations were taken in, one after the other, or the first refusal
unfoldable pub all_taken_in : State → List OpData → Result State Refusal
all_taken_in s [] = Ok s
all_taken_in s (o ∷ os) = if one.takes Had (judged s o) then all_taken_in (with_taken s o) os else Err (refused o (judged s o))

-- an operation is refused: those before it were taken in, and it changed nothing
pub record IsRefusedAt (s : State) (os : List OpData) (t : State) (why : Refusal) : Type 0 where
  pub before : List OpData
  pub op : OpData
  pub behind : List OpData
  pub parts : os ≡ before ++ op ∷ behind
  pub taken : all_taken_in s before ≡ Ok t
  pub refused : all_taken_in t (op ∷ []) ≡ Err why

-- the operation was delivered, as one that is taken in, and memory ran out among the releases after it
pub record IsPartlyTaken (s : State) (o : OpData) (t : State) : Type 0 where
  pub verdict : Verdict
  pub released : List Release
  pub untaken : one.IsUntaken Had (from s) o (Unsettled verdict) (record { state = t; released = released })

-- none of these operations was taken in, or the first of them in part
abbrev pub IsBefore : State → List OpData → State → Type 0
IsBefore s [] t = t ≡ s
IsBefore s (o ∷ os) t = (t ≡ s) ⊎ IsPartlyTaken s o t

-- on the way through these operations: some were taken in, and of the others the first one perhaps in part
pub record IsOnTheWay (s : State) (os : List OpData) (t : State) : Type 0 where
  pub before : List OpData
  pub behind : List OpData
  pub parts : os ≡ before ++ behind
  pub at : State
  pub taken : all_taken_in s before ≡ Ok at
  pub reached : IsBefore at behind t

-- the site with this history, at which nothing waits
abbrev pub with_history : State → List OpData → State
with_history s h = record s { history = h }

-- at a site at which nothing waits, operations that are next one after the other are all integrated
abbrev pub NextOperationsAreTaken : Type 0
NextOperationsAreTaken =
    (s : State) (os : List OpData) → IsValid s.history → s.waiting ≡ [] → IsValidAfter s.history os
    → all_taken_in s os ≡ Ok (with_history s (s.history ++ os))

-- two sites at which nothing waits and which agree: what each lacks is taken in without refusal, and each then has the join
abbrev pub BothSidesTakeAll : Type 0
BothSidesTakeAll =
    (server joiner : State) → IsValid server.history → IsValid joiner.history → server.waiting ≡ [] → joiner.waiting ≡ []
    → Agree server.history joiner.history
    → (all_taken_in joiner (unseen (is_known joiner.history) server.history)
    ≡ Ok (with_history joiner (joined joiner.history server.history)))
    × (all_taken_in server (unseen (is_known server.history) (joined joiner.history server.history))
    ≡ Ok (with_history server (joined server.history joiner.history)))

-- each operation is well formed and no member of the history or of one before it
abbrev pub AreNew : List OpData → List OpData → Type 0
AreNew h [] = Unit {0}
AreNew h (o ∷ os) = IsWellFormed o × (is_known h (member_of o) ≡ false) × AreNew (h ++ o ∷ []) os

-- frames of new members that were taken in without refusal, at a site at which nothing waits, were all integrated
abbrev pub NewOperationsAreAppended : Type 0
NewOperationsAreAppended =
    (s t : State) (os : List OpData) → IsValid s.history → s.waiting ≡ [] → AreNew s.history os → all_taken_in s os ≡ Ok t
    → t ≡ with_history s (s.history ++ os)

-- the four calls between two sites at which nothing waits: where none refuses, each side has the join
abbrev pub UnrefusedExchangesJoin : Type 0
UnrefusedExchangesJoin =
    (server joiner server_after joiner_after : State) → IsValid server.history → IsValid joiner.history
    → server.waiting ≡ [] → joiner.waiting ≡ []
    → all_taken_in joiner (unseen (is_known joiner.history) server.history) ≡ Ok joiner_after
    → all_taken_in server (unseen (is_known server.history) joiner_after.history) ≡ Ok server_after
    → (joiner_after ≡ with_history joiner (joined joiner.history server.history))
    × (server_after ≡ with_history server (joined server.history joiner.history))

-- taking in leaves a sound state of the same site, where what was integrated stays so
abbrev pub TakingInKeepsHistories : Type 0
TakingInKeepsHistories = (s t : State) (os : List OpData) → IsSound s → AllFormed os → all_taken_in s os ≡ Ok t → IsSound t × IsLater s t

-- a site takes in without refusal what it lacks of a valid history that agrees with it, and in which no operation that it lacks has
-- other content than one of the same name that waits there
abbrev pub LackedOperationsAreTaken : Type 0
LackedOperationsAreTaken =
    (s : State) (p : List OpData) → IsSound s → IsValid p → Agree s.history p → Agree s.waiting (unseen (is_known s.history) p)
    → (t : State) × (all_taken_in s (unseen (is_known s.history) p) ≡ Ok t)
