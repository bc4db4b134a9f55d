-- What `gen` writes of a generated session.
use Rattle.std.specs.Prelude.{◌≡◌, ℕ, true, List, ◌++◌, bytes_eq, codes, decimal, filter, length}
use Rattle.context_diff.specs.Replays.{text_of}
use Rattle.cot_site.specs.States.{State}
use Rattle.session_replay.specs.Sessions.{SessionData, site_at}
use Rattle.session_replay.specs.Generating.{Plan, Counts, generated, counts_of, all_counted}
use Rattle.log_replies.specs.declared.status.Status.{Status}
use Rattle.log_replies.specs.declared.status.Status.TheVariants.{Done}
use Rattle.log_replies.specs.Outside.{Outside}
use Rattle.log_replies.specs.Replies.{shown_reply}
use Rattle.cotpad_run.specs.Made.{IsMade}
use Rattle.cotpad_run.specs.declared.generator.TheConstants.{GENERATED_SITES}

-- the session has a few sites, to which all messages are delivered after each window and in the end
abbrev pub plan_of : ℕ → ℕ → ℕ → Plan
plan_of start events window = record { start = start; events = events; window = window; sites = GENERATED_SITES; syncs = true }

-- `gen START events EVENTS inserts I deletes D undos U redos R` and a line feed: how many operations of each kind were made
abbrev pub counts_text : ℕ → ℕ → Counts → List ℕ
counts_text start events k =
    codes "gen " ++ (decimal start ++ (codes " events " ++ (decimal events ++ (codes " inserts " ++ (decimal k.inserts
    ++ (codes " deletes " ++ (decimal k.deletes
    ++ (codes " undos " ++ (decimal k.undos ++ (codes " redos " ++ (decimal k.redos ++ codes "\n")))))))))))

-- how many of these sites show the same text as this one
abbrev pub alike : State → List State → ℕ
alike s sites = length (filter (λ t. bytes_eq (text_of t.history) (text_of s.history)) sites)

-- `equal E` and a line feed
abbrev pub equal_text : ℕ → List ℕ
equal_text n = codes "equal " ++ (decimal n ++ codes "\n")

-- the generated session
abbrev pub session_of : ℕ → ℕ → ℕ → SessionData
session_of start events window = generated (plan_of start events window)

-- how many of its sites show the text of site 0
abbrev pub alike_in : SessionData → ℕ
alike_in d = alike (site_at d 0) d.sites

-- the counts, the number of sites that show the text of site 0, and the lines of that text
abbrev pub gen_text : ℕ → ℕ → ℕ → List ℕ
gen_text start events window =
    let d = session_of start events window in
    counts_text start events (counts_of d.messages) ++ (equal_text (alike_in d) ++ (shown_reply (site_at d 0)).written)

-- all sites show the text of site 0, and the counts are of as many operations as there are events
pub record IsCounted (start events window : ℕ) : Type 0 where
  pub equal : alike_in (session_of start events window) ≡ GENERATED_SITES
  pub counted : all_counted (counts_of (session_of start events window).messages) ≡ events

-- each answer of `gen`, with its cause and what it leaves; once a session is generated, all its sites show the same text
pub record IsGenerated (start events window : ℕ) (old new : Outside) (status : Status) : Type 0 where
  pub made : IsMade (gen_text start events window) old new status
  pub counted : status ≡ Done → IsCounted start events window
