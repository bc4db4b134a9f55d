-- A session read with forms: beside the state of each site stands a list of forms, and what is shown is what these show. Verdicts,
-- releases, undos and redos look at no cell, and are what the histories say.
use Rattle.std.specs.Prelude.{◌≡◌, ℕ, List}
use Rattle.ttf_form.specs.declared.form.Form.{Form}
use Rattle.cot_site.specs.States.{State}
use Rattle.cot_site.specs.Views.{forms_view, AreFormLists}
use Rattle.script_text.specs.Report.{Report}
use Rattle.session_replay.specs.Scripts.{script_report, script_report_in}

-- the report of the script, read with lists of forms: beside a valid history each operation has a derived form at the members
-- before it, and texts, visible places, and the counts that refused places tell are those of the cells that the forms give
pub record IsDerivedReport (bytes : List ℕ) (r : Report) : Type 0 where
  pub forms : State → List Form
  pub lists : AreFormLists forms
  pub report : r ≡ script_report_in (forms_view forms) bytes

-- each script has a report that is read with forms: its report
abbrev pub DerivedReportsAreThere : Type 0
DerivedReportsAreThere = (bytes : List ℕ) → IsDerivedReport bytes (script_report bytes)

-- and there is no other
abbrev pub OneDerivedReport : Type 0
OneDerivedReport = (bytes : List ℕ) (r : Report) → IsDerivedReport bytes r → r ≡ script_report bytes
