-- Taking in an operation that was sent: it is judged, delivered, and what is ready then is released.
use Rattle.std.specs.Prelude.{◌≡◌, ◌≢◌, Bool, true, false, if◌then◌else◌}
use Rattle.context_diff.specs.Operations.{OpData}
use Rattle.site_answers.specs.declared.verdict.Verdict.{Verdict}
use Rattle.site_answers.specs.declared.verdict.Verdict.TheVariants.{Repeat, Forged, Waits, NotClosed, PlaceOut, Integrated}
use Rattle.cot_site.specs.States.{judged, delivered}
use Rattle.participant.specs.declared.taking.Taking.{Taking}
use Rattle.participant.specs.declared.taking.Taking.TheVariants as taking
use Rattle.participant.specs.declared.taking.Untaken.{Untaken}
use Rattle.participant.specs.declared.taking.Untaken.TheVariants as untaken
use Rattle.participant.specs.Reached.{Reached, with_delivered, all_settled, IsHalfSettled}

-- the verdict refuses the operation: other content of its name is known, its context isn't closed, or its place is out
abbrev pub is_refusal : Verdict → Bool
is_refusal Repeat = false
is_refusal (Forged n) = true
is_refusal (Waits m) = false
is_refusal (NotClosed s) = true
is_refusal (PlaceOut p k) = true
is_refusal Integrated = false

-- the history has the operation's member after this verdict
abbrev pub is_had : Verdict → Bool
is_had Repeat = true
is_had (Forged n) = false
is_had (Waits m) = false
is_had (NotClosed s) = false
is_had (PlaceOut p k) = false
is_had Integrated = true

-- whether an operation with this verdict is taken in: each one; one that isn't refused; one whose member the history has then
abbrev pub takes : Taking → Verdict → Bool
takes taking.All v = true
takes taking.Unrefused v = if is_refusal v then false else true
takes taking.Had v = is_had v

-- TakenIn: what is reached by an operation that was sent. One that is taken in is delivered, and all that is ready then is
-- released; any other changes nothing
abbrev pub taken_in : Taking → Reached → OpData → Reached
taken_in t a o = if takes t (judged a.state o) then all_settled (with_delivered a o) else a

-- why an operation that would be taken in wasn't, and what that leaves: nothing of it, as there was no memory for what it changes; or
-- it was delivered, and memory ran out among the releases after it
abbrev pub IsUntaken : Taking → Reached → OpData → Untaken → Reached → Type 0
IsUntaken t a o untaken.Memory b = (takes t (judged a.state o) ≡ true) × (delivered a.state o ≢ a.state) × (b ≡ a)
IsUntaken t a o (untaken.Unsettled v) b = (takes t v ≡ true) × (v ≡ judged a.state o) × IsHalfSettled (with_delivered a o) b
