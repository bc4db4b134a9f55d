-- Texts of the past: a set of members as a host gives it, and why it has no text, as a host is told.
use Rattle.std.specs.Prelude.{◌≡◌, ◌≢◌, ℕ, List, map}
use Rattle.op_name.specs.NameData.{NameData}
use Rattle.op_name.specs.declared.member.Member.TheVariants.{Original}
use Rattle.context_vector.specs.Contexts.{ContextData}
use Rattle.context_diff.specs.Operations.{OpData}
use Rattle.context_diff.specs.Replays.{text_of}
use Rattle.context_diff.specs.ClosedContexts.{IsClosedContext}
use Rattle.past_view.specs.Pasts.{sub, IsRefusal}
use Rattle.past_view.specs.declared.past.AtBad.{AtBad}
use Rattle.past_view.specs.declared.past.AtBad.TheVariants as bad
use Rattle.cotpad_c.specs.declared.status.TheConstants.{NO_MEMORY, UNKNOWN, STRAY, NOT_CLOSED}
use Rattle.cotpad_c.specs.declared.operation.CotpadCount.{CotpadCount}
use Rattle.cotpad_c.specs.declared.operation.CotpadMember.{CotpadMember}
use Rattle.cotpad_c.specs.Operations.{member_told, site_told}
use Rattle.cotpad_c.specs.Statuses.{Wrote}

-- ---- what a host gives

-- a site with its count
abbrev pub count_told : CotpadCount → ℕ × ℕ
count_told c = (c.site, c.count)

-- the name of a member
abbrev pub name_told : CotpadMember → NameData
name_told m = record { site = m.site; number = m.number }

-- an undone name with its greatest generation
abbrev pub entry_told : CotpadMember → NameData × ℕ
entry_told m = (name_told m, m.generation)

abbrev pub counts_told : List CotpadCount → List (ℕ × ℕ)
counts_told cs = map count_told cs

abbrev pub undone_told : List CotpadMember → List (NameData × ℕ)
undone_told ms = map entry_told ms

-- what the two lists say: a set exactly if it is a context, where sites and names rise and all numbers are in range
abbrev pub set_told : List CotpadCount → List CotpadMember → ContextData
set_told cs ms = record { counts = counts_told cs; entries = undone_told ms }

-- ---- what a host is told

abbrev pub past_status : AtBad → ℕ
past_status (bad.Unknown m) = UNKNOWN
past_status (bad.Stray n) = STRAY
past_status (bad.NotClosed s) = NOT_CLOSED
past_status bad.Memory = NO_MEMORY

-- the member that was there stays where there was no memory
abbrev pub past_told : CotpadMember → AtBad → CotpadMember
past_told old (bad.Unknown m) = member_told m
past_told old (bad.Stray n) = member_told (Original n)
past_told old (bad.NotClosed s) = site_told s
past_told old bad.Memory = old

-- the set is closed in the history, and the text that its operations show was made
pub record IsPast (h : List OpData) (c : ContextData) (n : ℕ) (old new : List ℕ) (needed : ℕ) : Type 0 where
  pub closed : IsClosedContext h c
  pub wrote : Wrote n (text_of (sub h c)) old new needed

-- the set has no text, for a reason that holds of it, or there was no memory; and this is the status and the member of the reason
pub record IsNoPast (h : List OpData) (c : ContextData) (n : ℕ) (old new : CotpadMember) : Type 0 where
  pub why : AtBad
  pub is : n ≢ NO_MEMORY → IsRefusal h c why
  pub status : n ≡ past_status why
  pub told : new ≡ past_told old why
