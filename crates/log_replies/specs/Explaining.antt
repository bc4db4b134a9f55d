-- What `explain` writes: the steps that derive the form in which an operation was executed.
use Rattle.std.specs.Prelude.{◌≡◌, ◌⊎◌, ℕ, suc, true, false, List, [], ◌∷◌, ◌++◌, codes, Some, slice_get, if◌then◌else◌}
use Rattle.op_name.specs.declared.member.Member.{Member}
use Rattle.op_name.specs.Members.{member_eq}
use Rattle.context_diff.specs.Operations.{OpData, member_of}
use Rattle.context_diff.specs.Histories.{is_known, members_in}
use Rattle.ttf_form.specs.declared.form.Form.{Form}
use Rattle.fixed_replay.specs.Replayed.{letters_of}
use Rattle.trace_explain.specs.declared.line.TraceLine.{TraceLine}
use Rattle.trace_explain.specs.declared.line.TraceLine.TheVariants.{Base, Step}
use Rattle.trace_explain.specs.Traces.{IsTrace}
use Rattle.trace_explain.specs.Listings.{IsTraceOf}
use Rattle.trace_explain.specs.Laws.{EndsIn}
use Rattle.cot_site.specs.States.{State}
use Rattle.cot_site.specs.Sites.{AreExecuted}
use Rattle.site_answers.specs.Names.{member_text}
use Rattle.script_text.specs.Explained.{base_text, step_text}
use Rattle.script_text.specs.Report.{Report}
use Rattle.log_replies.specs.Replies.{RepliesToLogBy, accepting, refusing}

-- the characters that a member brings: those of its operation in the history
abbrev pub letters_by : List OpData → Member → List ℕ
letters_by [] m = []
letters_by (o ∷ os) m = if member_eq (member_of o) m then letters_of o else letters_by os m

-- the member that a line is about
abbrev pub about : TraceLine → Member
about (Base m f) = m
about (Step left over m f) = m

-- the line of this number, about a member that brings these characters
abbrev pub line_text : List ℕ → ℕ → TraceLine → List ℕ
line_text chars number (Base m f) = base_text number m chars f
line_text chars number (Step left over m f) = step_text number left over m chars f

-- the lines, of which the first has this number; each form is written with the characters that the line's member brings
abbrev pub lines_text : List OpData → ℕ → List TraceLine → List ℕ
lines_text h number [] = []
lines_text h number (l ∷ ls) = line_text (letters_by h (about l)) number l ++ lines_text h (suc number) ls

-- `refused unknown MEMBER` and a line feed
abbrev pub unknown_text : Member → List ℕ
unknown_text m = codes "refused unknown " ++ (member_text m ++ codes "\n")

-- the lines are those that the listing rule gives for m; each is a base form or an inclusion of earlier lines; and the last one has
-- the form in which m was executed, when the history was executed operation by operation in derived forms
pub record IsExplanation (h : List OpData) (m : Member) (lines : List TraceLine) : Type 0 where
  pub listed : IsTraceOf h m lines
  pub right : IsTrace h m lines
  pub executed : (forms : List Form) (i : ℕ) (f : Form) → AreExecuted h forms → slice_get (members_in h) i ≡ Some m
      → slice_get forms i ≡ Some f → EndsIn lines f

-- the reply to the state: the steps of m, numbered from 1, or the line that m isn't integrated
abbrev pub IsExplainedIn : Member → State → Report → Type 0
IsExplainedIn m s reply =
    ((is_known s.history m ≡ false) × (reply ≡ refusing (unknown_text m)))
    ⊎ ((is_known s.history m ≡ true)
    × ((lines : List TraceLine) × IsExplanation s.history m lines × (reply ≡ accepting (lines_text s.history 1 lines))))

-- `explain`: the log is loaded as site 0
abbrev pub IsExplained : Member → List ℕ → Report → Type 0
IsExplained m = RepliesToLogBy 0 (IsExplainedIn m)
