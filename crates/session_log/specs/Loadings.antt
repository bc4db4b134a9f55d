-- Loading a log: its operations are taken in one after the other, each with the releases after it.
use Rattle.std.specs.Prelude.{◌≡◌, ℕ, List, [], ◌∷◌, ◌++◌, Option, Some, None}
use Rattle.std.specs.List.{find}
use Rattle.context_diff.specs.Operations.{OpData, member_of}
use Rattle.site_answers.specs.declared.release.Release.{Release}
use Rattle.cot_site.specs.States.{State, judged}
use Rattle.participant.specs.declared.taking.Taking.TheVariants.{Unrefused}
use Rattle.participant.specs.declared.taking.Untaken.{Untaken}
use Rattle.participant.specs.Reached.{Reached, from}
use Rattle.participant.specs.Taking.{is_refusal, taken_in, IsUntaken}
use Rattle.session_log.specs.declared.log_bad.LogBad.{LogBad}
use Rattle.session_log.specs.declared.log_bad.LogBad.TheVariants as bad
use Rattle.session_log.specs.Logs.{offset_after, IsLogOf}
use Rattle.session_log.specs.Readings.{IsUnread}

-- what an operation of a log leads to: unless it is refused, it is delivered, and all that is ready then is released
abbrev pub led_to : State → OpData → Reached
led_to s o = taken_in Unrefused (from s) o

-- the verdicts on the way there: that on the operation, and those of the releases after it
abbrev pub verdicts_after : State → OpData → List Release
verdicts_after s o = record { member = member_of o; verdict = judged s o } ∷ (led_to s o).released

-- the first verdict among these that is a refusal
abbrev pub first_refusal : List Release → Option Release
first_refusal rs = find (λ r. is_refusal r.verdict) rs

-- the state that an operation leads to
abbrev pub after_one : State → OpData → State
after_one s o = (led_to s o).state

-- why an operation whose frame begins at this offset was not taken in: the first refusal among these verdicts, or out of memory
abbrev pub IsRefusal : ℕ → List Release → LogBad → Type 0
IsRefusal at rs bad.Header = ⊥
IsRefusal at rs (bad.Cut offset) = ⊥
IsRefusal at rs (bad.Bad offset cause) = ⊥
IsRefusal at rs (bad.Refused offset member verdict) =
    (offset ≡ at) × (first_refusal rs ≡ Some (record { member = member; verdict = verdict }))
IsRefusal at rs bad.Memory = Unit {0}

-- the state where memory ran out: the operation wasn't taken in, or not wholly
abbrev pub IsCutShort : State → OpData → State → Type 0
IsCutShort s o t = (why : Untaken) × (listed : List Release) × IsUntaken Unrefused (from s) o why (record { state = t; released = listed })

-- the state after these operations were taken in, one after the other
abbrev pub after_all : State → List OpData → State
after_all s [] = s
after_all s (o ∷ os) = after_all (after_one s o) os

-- and no verdict on the way is a refusal
abbrev pub AreTakenIn : State → List OpData → Type 0
AreTakenIn s [] = Unit {0}
AreTakenIn s (o ∷ os) = (first_refusal (verdicts_after s o) ≡ None) × AreTakenIn (after_one s o) os

-- the state of a site that has done nothing
abbrev pub new_state : ℕ → State
new_state site = record { number = site; history = []; waiting = [] }

-- Loaded, a state: the bytes are a log, of which no operation is refused, and this is the state after the last one
pub record IsLoaded (site : ℕ) (bytes : List ℕ) (s : State) : Type 0 where
  pub ops : List OpData
  pub log : IsLogOf bytes ops
  pub taken : AreTakenIn (new_state site) ops
  pub state : s ≡ after_all (new_state site) ops

-- Loaded, the first refusal: the bytes are a log, and the delivery of the operation whose frame begins at this offset, or a
-- release after it, brings the first one
pub record IsFirstRefusal (site : ℕ) (bytes : List ℕ) (offset : ℕ) (r : Release) : Type 0 where
  pub before : List OpData
  pub op : OpData
  pub behind : List OpData
  pub log : IsLogOf bytes (before ++ op ∷ behind)
  pub place : offset ≡ offset_after log.version before
  pub taken : AreTakenIn (new_state site) before
  pub first : first_refusal (verdicts_after (after_all (new_state site) before) op) ≡ Some r

-- why no site was loaded: the bytes are no log, or else an operation is refused; out of memory comes only where the bytes are a log
abbrev pub IsUnloaded : ℕ → List ℕ → LogBad → Type 0
IsUnloaded site bytes bad.Header = IsUnread bytes bad.Header
IsUnloaded site bytes (bad.Cut offset) = IsUnread bytes (bad.Cut offset)
IsUnloaded site bytes (bad.Bad offset cause) = IsUnread bytes (bad.Bad offset cause)
IsUnloaded site bytes (bad.Refused offset member verdict) = IsFirstRefusal site bytes offset (record { member = member; verdict = verdict })
IsUnloaded site bytes bad.Memory = (ops : List OpData) × IsLogOf bytes ops
