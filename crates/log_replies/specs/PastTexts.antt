-- What `at` writes: the lines of the text at a set of members, or why the set has none.
use Rattle.std.specs.Prelude.{◌≡◌, ◌≢◌, ◌⊎◌, ℕ, List, [], ◌++◌, codes, decimal, length}
use Rattle.context_vector.specs.Contexts.{ContextData}
use Rattle.context_diff.specs.ClosedContexts.{IsClosedContext}
use Rattle.context_diff.specs.Replays.{text_of, characters_of}
use Rattle.cot_site.specs.States.{State}
use Rattle.past_view.specs.declared.past.AtBad.{AtBad}
use Rattle.past_view.specs.declared.past.AtBad.TheVariants as bad
use Rattle.past_view.specs.Pasts.{sub, IsRefusal}
use Rattle.script_text.specs.Report.{Report, shown_text}
use Rattle.site_answers.specs.Names.{name_text, member_text}
use Rattle.log_replies.specs.Replies.{RepliesToLogBy, accepting, refusing}

-- why a set has no text, in words
abbrev pub at_bad_words : AtBad → List ℕ
at_bad_words (bad.Unknown m) = codes "unknown " ++ member_text m
at_bad_words (bad.Stray n) = codes "stray " ++ name_text n
at_bad_words (bad.NotClosed s) = codes "notclosed " ++ decimal s
at_bad_words bad.Memory = []

-- `refused at WORDS` and a line feed
abbrev pub refused_at_text : AtBad → List ℕ
refused_at_text why = codes "refused at " ++ (at_bad_words why ++ codes "\n")

-- the lines of the text that the operations of the set show
abbrev pub past_reply : ContextData → State → Report
past_reply c s = accepting (shown_text (length (characters_of (sub s.history c))) (text_of (sub s.history c)))

-- the reply to the state: the lines of the text at the set, which is closed, or why the set has none
abbrev pub IsShownAtIn : ContextData → State → Report → Type 0
IsShownAtIn c s reply =
    (IsClosedContext s.history c × (reply ≡ past_reply c s))
    ⊎ ((why : AtBad) × (why ≢ bad.Memory) × IsRefusal s.history c why × (reply ≡ refusing (refused_at_text why)))

-- `at`: the log is loaded as site 0
abbrev pub IsShownAt : ContextData → List ℕ → Report → Type 0
IsShownAt c = RepliesToLogBy 0 (IsShownAtIn c)
