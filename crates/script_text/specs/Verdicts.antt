-- The report lines of verdicts and of reasons.
use Rattle.std.specs.Prelude.{ℕ, List, ◌++◌, decimal, codes}
use Rattle.op_name.specs.declared.member.Member.{Member}
use Rattle.site_answers.specs.declared.verdict.Verdict.{Verdict}
use Rattle.site_answers.specs.declared.local.Local.{Local}
use Rattle.site_answers.specs.Words.{verdict_text, reason_text}
use Rattle.script_text.specs.declared.report.event.Event.{Event}
use Rattle.script_text.specs.declared.report.event.Event.TheVariants.{Give, Free}

abbrev pub event_word : Event → List ℕ
event_word Give = codes "give"
event_word Free = codes "free"

-- `give S WORDS` or `free S WORDS`, and a line feed
abbrev pub event_text : Event → ℕ → List ℕ → List ℕ
event_text event site words = event_word event ++ (codes " " ++ (decimal site ++ (codes " " ++ (words ++ codes "\n"))))

-- the report line of a verdict
abbrev pub verdict_line_text : Event → ℕ → Member → Verdict → List ℕ
verdict_line_text event site member verdict = event_text event site (verdict_text member verdict)

-- `no REASON` and a line feed
abbrev pub no_text : List ℕ → List ℕ
no_text reason = codes "no " ++ (reason ++ codes "\n")

abbrev pub local_text : Local → List ℕ
local_text reason = no_text (reason_text reason)
