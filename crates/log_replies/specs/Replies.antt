-- What the commands that load their input as a log reply.
use Rattle.std.specs.Prelude.{◌≡◌, ◌≢◌, ◌⊎◌, ◌<◌, ◌≤◌, ℕ, true, false, List, ◌++◌, codes, decimal, length, nat_le, if◌then◌else◌, Result, Ok, Err}
use Rattle.context_diff.specs.Replays.{text_of, characters_of}
use Rattle.cot_site.specs.States.{State}
use Rattle.site_answers.specs.declared.local.Local.{Local}
use Rattle.outside_io.specs.declared.reading.TheConstants.{MAX_INPUT}
use Rattle.script_text.specs.Report.{Report, shown_text}
use Rattle.script_text.specs.Verdicts.{local_text}
use Rattle.session_log.specs.declared.log_bad.LogBad.{LogBad}
use Rattle.session_log.specs.declared.log_bad.LogBad.TheVariants as bad
use Rattle.session_log.specs.declared.reading.TheConstants.{MAX_LOG}
use Rattle.session_log.specs.Logs.{log_of}
use Rattle.session_log.specs.Loadings.{IsLoaded, IsUnloaded}
use Rattle.session_log.specs.Words.{refused_log_text}
use Rattle.log_replies.specs.Editing.{EditData, edited}

-- what is written, where nothing is refused
abbrev pub accepting : List ℕ → Report
accepting written = record { written = written; refused = false }

-- the line that says why something is refused
abbrev pub refusing : List ℕ → Report
refusing line = record { written = line; refused = true }

-- the line of an input that is too long: it is refused so, whatever stands in it
abbrev pub limit_line : List ℕ
limit_line = codes "refused limit\n"

-- the line that refuses the bytes as the log of this site: they are too many, or else the log is refused for this reason
abbrev pub IsRefusal : ℕ → List ℕ → List ℕ → Type 0
IsRefusal site bytes line =
    ((MAX_INPUT < length bytes) × (line ≡ limit_line))
    ⊎ ((length bytes ≤ MAX_INPUT) × ((why : LogBad) × (why ≢ bad.Memory) × IsUnloaded site bytes why × (line ≡ refused_log_text why)))

-- the line that refuses the bytes as the log of this site was appended
abbrev pub IsRefusedInto : ℕ → List ℕ → List ℕ → List ℕ → Type 0
IsRefusedInto site bytes old new = (line : List ℕ) × IsRefusal site bytes line × (new ≡ old ++ line)

-- the bytes are a log, not too long, and loaded as this site they give this state
abbrev pub IsLoadedAs : ℕ → List ℕ → State → Type 0
IsLoadedAs site bytes s = (length bytes ≤ MAX_INPUT) × IsLoaded site bytes s

-- the reply of a command that loads its input as this site, and then replies to the state in one of these ways
abbrev pub RepliesToLogBy : ℕ → (State → Report → Type 0) → List ℕ → Report → Type 0
RepliesToLogBy site ToState bytes reply =
    ((line : List ℕ) × IsRefusal site bytes line × (reply ≡ refusing line)) ⊎ ((s : State) × IsLoadedAs site bytes s × ToState s reply)

-- the same where the state has one reply
abbrev pub RepliesToLog : ℕ → (State → Report) → List ℕ → Report → Type 0
RepliesToLog site to_state = RepliesToLogBy site (λ s reply. reply ≡ to_state s)

-- `show`: the lines of the text that the history shows
abbrev pub shown_reply : State → Report
shown_reply s = accepting (shown_text (length (characters_of s.history)) (text_of s.history))

abbrev pub IsShown : List ℕ → Report → Type 0
IsShown = RepliesToLog 0 shown_reply

-- `refused toolong LEN` and a line feed
abbrev pub too_long_text : ℕ → List ℕ
too_long_text len = codes "refused toolong " ++ (decimal len ++ codes "\n")

-- the log of the state; where it has more bytes than are read again, nothing of it, but how many
abbrev pub log_reply : State → Report
log_reply s =
    if nat_le (length (log_of s.history s.waiting)) MAX_LOG then accepting (log_of s.history s.waiting)
    else refusing (too_long_text (length (log_of s.history s.waiting)))

-- `upgrade`: the log of the site that was loaded, which is of version 2
abbrev pub IsUpgraded : List ℕ → Report → Type 0
IsUpgraded = RepliesToLog 0 log_reply

-- `refused no REASON` and a line feed
abbrev pub refused_edit_text : Local → List ℕ
refused_edit_text why = codes "refused " ++ local_text why

-- `edit`: the log of the edited site; nothing of it where an operation is refused, but why
abbrev pub edit_reply : Result State Local → Report
edit_reply (Ok s) = log_reply s
edit_reply (Err why) = refusing (refused_edit_text why)

abbrev pub IsEdited : ℕ → EditData → List ℕ → Report → Type 0
IsEdited site edit = RepliesToLog site (λ s. edit_reply (edited s edit))
