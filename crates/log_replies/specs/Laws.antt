-- The laws that stand beside replies.
use Rattle.std.specs.Prelude.{◌≡◌, ℕ, List}
use Rattle.op_name.specs.declared.member.Member.{Member}
use Rattle.context_vector.specs.Contexts.{ContextData, IsContext}
use Rattle.cot_site.specs.States.{State}
use Rattle.script_text.specs.Report.{Report}
use Rattle.log_replies.specs.Replies.{RepliesToLog}
use Rattle.log_replies.specs.Explaining.{IsExplained}
use Rattle.log_replies.specs.PastTexts.{IsShownAt}

-- the bytes decide the reply: a command that loads its input as a log, and then replies to the state, has one reply at most
abbrev pub OneReply : Type 0
OneReply =
    (site : ℕ) (to_state : State → Report) (bytes : List ℕ) (a b : Report) → RepliesToLog site to_state bytes a
    → RepliesToLog site to_state bytes b → a ≡ b

-- the same of `explain`
abbrev pub OneExplanation : Type 0
OneExplanation = (m : Member) (bytes : List ℕ) (a b : Report) → IsExplained m bytes a → IsExplained m bytes b → a ≡ b

-- the same of `at`
abbrev pub OnePast : Type 0
OnePast = (c : ContextData) → IsContext c → (bytes : List ℕ) (a b : Report) → IsShownAt c bytes a → IsShownAt c bytes b → a ≡ b
