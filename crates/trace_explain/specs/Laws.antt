-- The laws of traces.
use Rattle.std.specs.Prelude.{◌≡◌, ℕ, List, [], ◌∷◌, ◌++◌, Some, slice_get}
use Rattle.op_name.specs.declared.member.Member.{Member}
use Rattle.context_diff.specs.Operations.{OpData}
use Rattle.context_diff.specs.Histories.{members_in}
use Rattle.ttf_form.specs.declared.form.Form.{Form}
use Rattle.ttf_form.specs.Forms.{form_over}
use Rattle.transform_rec.specs.Sets.{none}
use Rattle.transform_rec.specs.Executing.{AreFormsFrom}
use Rattle.transform_rec.specs.Histories.{family_in}
use Rattle.undo_group.specs.BaseForms.{base_form}
use Rattle.undo_group.specs.Bounds.{IsShortHistory}
use Rattle.trace_explain.specs.declared.line.TraceLine.{TraceLine}
use Rattle.trace_explain.specs.declared.line.TraceLine.TheVariants.{Base, Step}
use Rattle.trace_explain.specs.Traces.{IsTrace}
use Rattle.trace_explain.specs.Listings.{IsTraceOf}

-- the form of a line
abbrev pub form_of_line : TraceLine → Form
form_of_line (Base m f) = f
form_of_line (Step left over m f) = f

-- the last line has this form
pub record EndsIn (lines : List TraceLine) (f : Form) : Type 0 where
  pub earlier : List TraceLine
  pub last : TraceLine
  pub whole : lines ≡ earlier ++ last ∷ []
  pub form : form_of_line last ≡ f

-- the listing rule gives a member of a history one list of lines
abbrev pub OneTrace : Type 0
OneTrace = (h : List OpData) (m : Member) (ls ks : List TraceLine) → IsTraceOf h m ls → IsTraceOf h m ks → ls ≡ ks

-- a trace ends in the form in which its member was executed, where each operation of the history was executed in a derived form at
-- the members before it
abbrev pub EndsInExecutedForm : Type 0
EndsInExecutedForm =
    (h : List OpData) (fs : List Form) (m : Member) (i : ℕ) (f : Form) (lines : List TraceLine) → IsShortHistory h
    → AreFormsFrom form_over (family_in h (base_form h)) none (members_in h) fs
    → slice_get (members_in h) i ≡ Some m → slice_get fs i ≡ Some f → IsTrace h m lines → EndsIn lines f
