-- Sessions: the sites that a script made, each with its state, and the messages; what an event at one site does.
use Rattle.std.specs.Prelude.{ℕ, zero, suc, Bool, true, false, List, [], ◌∷◌, ◌++◌, length, map, set, slice_index_or, if◌then◌else◌}
use Rattle.context_diff.specs.Operations.{OpData, member_of}
use Rattle.cot_site.specs.States.{State, Released, judged, delivered, with_last}
use Rattle.cot_site.specs.Releases.{all_releases}
use Rattle.site_answers.specs.declared.verdict.Verdict.{Verdict}
use Rattle.site_answers.specs.declared.verdict.Verdict.TheVariants.{Repeat, Forged, Waits, NotClosed, PlaceOut, Integrated}
use Rattle.script_text.specs.declared.report.event.Event.TheVariants.{Give, Free}
use Rattle.script_text.specs.Report.{op_text}
use Rattle.script_text.specs.Verdicts.{verdict_line_text}
use Rattle.session_replay.specs.Steps.{Step, and_then}

-- the states of the sites, in the order of their numbers, none before `sites N`; and the messages, numbered from 0
pub record SessionData : Type 0 where
  pub sites : List State
  pub messages : List OpData

-- a session, and whether a line of it was cut short, out of memory
pub record Running : Type 0 where
  pub session : SessionData
  pub cut : Bool

-- no site yet
abbrev pub unstarted : SessionData
unstarted = record { sites = []; messages = [] }

-- a site with nothing integrated and nothing waiting
abbrev pub new_site : ℕ → State
new_site i = record { number = i; history = []; waiting = [] }

-- n sites from number i on
unfoldable pub new_sites : ℕ → ℕ → List State
new_sites i zero = []
new_sites i (suc n) = new_site i ∷ new_sites (suc i) n

-- the session in which n sites were just made
abbrev pub opened : ℕ → SessionData
opened n = record { sites = new_sites 0 n; messages = [] }

abbrev pub site_at : SessionData → ℕ → State
site_at d i = slice_index_or d.sites i (new_site i)

abbrev pub with_site : SessionData → ℕ → State → SessionData
with_site d i s = record { sites = set d.sites i s; messages = d.messages }

-- ---- events at one site

-- a release, with its line
abbrev pub free_step : Released → Step State
free_step r = record { written = verdict_line_text Free r.after.number (member_of r.op) r.verdict; after = r.after }

-- an event that leaves the site in this state, and the releases after it
abbrev pub settling : List ℕ → State → List (Step State)
settling written s = record { written = written; after = s } ∷ map free_step (all_releases s)

-- a local operation, which becomes the message of this number
abbrev pub making : ℕ → OpData → State → List (Step State)
making message o s = settling (op_text message o) (with_last s o)

-- whether the line of a delivery is left out: that of a repeat where many are delivered at once
abbrev pub is_silent : Bool → Verdict → Bool
is_silent many Repeat = many
is_silent many (Forged n) = false
is_silent many (Waits m) = false
is_silent many (NotClosed s) = false
is_silent many (PlaceOut p k) = false
is_silent many Integrated = false

-- what a delivery with this verdict writes, at the site of this number
abbrev pub told_verdict : Bool → OpData → Verdict → ℕ → List ℕ
told_verdict many o v site = if is_silent many v then [] else verdict_line_text Give site (member_of o) v

-- a delivery
abbrev pub taking_in : Bool → OpData → State → List (Step State)
taking_in many o s = settling (told_verdict many o (judged s o) s.number) (delivered s o)

-- ---- the same in a session

-- steps of the site of this number, with these messages
abbrev pub at_site : List State → List OpData → ℕ → List (Step State) → List (Step SessionData)
at_site sites messages i es =
    map (λ e. record { written = e.written; after = record { sites = set sites i e.after; messages = messages } }) es

-- a local operation at the site: it becomes the next message
abbrev pub made : ℕ → OpData → SessionData → List (Step SessionData)
made i o d = at_site d.sites (d.messages ++ o ∷ []) i (making (length d.messages) o (site_at d i))

-- a delivery to the site
abbrev pub given : Bool → ℕ → OpData → SessionData → List (Step SessionData)
given many i o d = at_site d.sites d.messages i (taking_in many o (site_at d i))

-- each of these messages to the site
unfoldable pub given_all : ℕ → List OpData → SessionData → List (Step SessionData)
given_all i [] d = []
given_all i (o ∷ os) d = and_then d (given true i o d) (given_all i os)

-- every message to each of n sites from number i on
unfoldable pub synced : ℕ → ℕ → SessionData → List (Step SessionData)
synced i zero d = []
synced i (suc n) d = and_then d (given_all i d.messages d) (synced (suc i) n)
