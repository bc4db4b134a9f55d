-- States of a site, and what a delivery and a release make of them.
use Rattle.std.specs.Prelude.{◌≡◌, ◌⊎◌, ℕ, suc, ◌<◌, Bool, true, List, [], ◌∷◌, ◌++◌, Contains, Option, Some, None, ◌||◌, if◌then◌else◌, option_map, slice_get, remove}
use Rattle.std.specs.List.{list_any}
use Rattle.std.specs.Option.{is_none}
use Rattle.context_diff.specs.Operations.{OpData, member_of, context_of}
use Rattle.context_diff.specs.Histories.{is_known, LacksNothing}
use Rattle.context_diff.specs.Ops.{op_eq}
use Rattle.site_answers.specs.declared.verdict.Verdict.{Verdict}
use Rattle.site_answers.specs.declared.verdict.Verdict.TheVariants.{Repeat, Forged, Waits, NotClosed, PlaceOut, Integrated}
use Rattle.cot_site.specs.Verdicts.{verdict_of, lacked, IsVerdict}

-- State: a site's number, the operations that it integrated in their order, and those that wait in the order of arrival
pub record State : Type 0 where
  pub number : ℕ
  pub history : List OpData
  pub waiting : List OpData

-- the list with the operation after its last, unless it is there already
abbrev pub held : List OpData → OpData → List OpData
held w o = if list_any (op_eq o) w then w else w ++ o ∷ []

-- the state with the operation as the last of its history
abbrev pub with_last : State → OpData → State
with_last s o = record s { history = s.history ++ o ∷ [] }

-- the state with the operation among those that wait
abbrev pub with_held : State → OpData → State
with_held s o = record s { waiting = held s.waiting o }

-- the state after an operation got its verdict: an integrated one is the last of the history, one that waits is held, and
-- any other changes nothing
abbrev pub after_verdict : Verdict → OpData → State → State
after_verdict Repeat o s = s
after_verdict (Forged n) o s = s
after_verdict (Waits m) o s = with_held s o
after_verdict (NotClosed k) o s = s
after_verdict (PlaceOut p k) o s = s
after_verdict Integrated o s = with_last s o

-- the verdict that a delivered operation gets
abbrev pub judged : State → OpData → Verdict
judged s o = verdict_of s.history s.waiting o

-- the state after the operation was delivered
abbrev pub delivered : State → OpData → State
delivered s o = after_verdict (judged s o) o s

-- ---- Release

-- the operation's member is integrated, or its context is
abbrev pub is_ready : List OpData → OpData → Bool
is_ready h o = is_known h (member_of o) || is_none (lacked h (context_of o))

-- the place of the first operation that is ready
abbrev pub first_ready : List OpData → List OpData → Option ℕ
first_ready h [] = None
first_ready h (o ∷ os) = if is_ready h o then Some 0 else option_map suc (first_ready h os)

-- the state without the waiting operation at this place
abbrev pub without_waiting : State → ℕ → State
without_waiting s i = record s { waiting = remove s.waiting i }

-- a released operation, its verdict, and the state after it
pub record Released : Type 0 where
  pub op : OpData
  pub verdict : Verdict
  pub after : State

-- the operation was taken out of the waiting ones, and then delivered
abbrev pub delivered_again : State → OpData → Released
delivered_again s o = record { op = o; verdict = judged s o; after = delivered s o }

abbrev pub released_at : State → Option ℕ → Option Released
released_at s None = None
released_at s (Some i) = option_map (delivered_again (without_waiting s i)) (slice_get s.waiting i)

-- Release: the first operation that is ready leaves the waiting ones, and gets its verdict over the history and the others
abbrev pub released : State → Option Released
released s = released_at s (first_ready s.history s.waiting)

-- the state after a release, the same if nothing was released
abbrev pub after_release : State → Option Released → State
after_release s None = s
after_release s (Some r) = r.after

-- Settled: no waiting operation is ready
abbrev pub IsSettled : State → Type 0
IsSettled s = first_ready s.history s.waiting ≡ None

-- ---- the same in words

-- the operation's member is integrated, or its context lacks nothing
abbrev pub IsReady : List OpData → OpData → Type 0
IsReady h o = (is_known h (member_of o) ≡ true) ⊎ LacksNothing h (context_of o)

-- the released operation waited at this place, ready, and none before it was; it left, and got the verdict over the history and
-- the others, with its effect
pub record IsFirstRelease (s : State) (r : Released) : Type 0 where
  pub place : ℕ
  pub there : slice_get s.waiting place ≡ Some r.op
  pub ready : IsReady s.history r.op
  pub first : (i : ℕ) (o : OpData) → i < place → slice_get s.waiting i ≡ Some o → ¬ IsReady s.history o
  pub verdict : IsVerdict s.history (remove s.waiting place) r.op r.verdict
  pub after : r.after ≡ after_verdict r.verdict r.op (without_waiting s place)

-- no waiting operation is ready
abbrev pub NoneIsReady : State → Type 0
NoneIsReady s = (o : OpData) → Contains s.waiting o → ¬ IsReady s.history o
