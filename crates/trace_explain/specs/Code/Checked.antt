-- Rows of lines that were found right.
use Rattle.std.specs.Prelude.{◌≡◌, ◌≢◌, false, List, [], ◌∷◌, ◌++◌}
use Rattle.op_name.specs.declared.member.Member.{Member}
use Rattle.context_vector.specs.Contexts.{has, raised}
use Rattle.context_diff.specs.Operations.{OpData}
use Rattle.ttf_form.specs.declared.form.Form.{Form}
use Rattle.ttf_form.specs.Families.{IsIn}
use Rattle.trace_explain.specs.declared.row.Row.{Row}
use Rattle.trace_explain.specs.Traces.{IsInclusionOf, pair, context_before}
use Rattle.trace_explain.specs.Code.Tasks.{IsFormAt}

-- the row has a derived form of its member
abbrev pub IsDerivedRow : List OpData → Row → Type 0
IsDerivedRow h r = IsFormAt h r.at r.form

abbrev pub AreDerivedRows : List OpData → List Row → Type 0
AreDerivedRows h rows = (r : Row) → IsIn r rows → IsDerivedRow h r

-- a step of m may include b's form in a's
abbrev pub MayInclude : Row → Row → Member → Type 0
MayInclude a b m = (a.at.member ≡ m) × (b.at.context ≡ a.at.context) × (b.at.member ≢ m) × (has a.at.context b.at.member ≡ false)

-- r is the row of the step that includes b's form in a's, which gives the form f of m
abbrev pub IsStepTo : Row → Row → Member → Form → Row → Type 0
IsStepTo a b m f r = IsInclusionOf a b m f × (r ≡ record { at = pair m (raised a.at.context b.at.member); form = f })

-- the last row is about m at all members that the history holds before m
pub record EndsAt (h : List OpData) (m : Member) (rows : List Row) : Type 0 where
  pub earlier : List Row
  pub last : Row
  pub whole : rows ≡ earlier ++ last ∷ []
  pub executed : last.at ≡ pair m (context_before h m)
