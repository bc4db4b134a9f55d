-- Traces: lines that bring forms to contexts one inclusion at a time, each line from earlier ones.
use Rattle.std.specs.Prelude.{◌≡◌, ◌≢◌, ℕ, ◌-◌, ◌≤◌, true, false, List, [], ◌∷◌, ◌++◌, Some, slice_get, if◌then◌else◌}
use Rattle.op_name.specs.declared.member.Member.{Member}
use Rattle.op_name.specs.Members.{member_eq}
use Rattle.context_vector.specs.Contexts.{ContextData, has, raised}
use Rattle.context_diff.specs.Operations.{OpData, member_of}
use Rattle.context_diff.specs.Histories.{is_known, context_of_all}
use Rattle.context_diff.specs.Bases.{base_context_of}
use Rattle.ttf_form.specs.declared.form.Form.{Form}
use Rattle.ttf_form.specs.Forms.{form_over}
use Rattle.form_cache.specs.Keys.{KeyData}
use Rattle.undo_group.specs.BaseForms.{base_form}
use Rattle.trace_explain.specs.declared.line.TraceLine.{TraceLine}
use Rattle.trace_explain.specs.declared.line.TraceLine.TheVariants.{Base, Step}
use Rattle.trace_explain.specs.declared.row.Row.{Row}

-- a member at a context
abbrev pub pair : Member → ContextData → KeyData
pair m c = record { member = m; context = c }

-- the row is that of the line with this number; the first line has number 1
abbrev pub IsRowOf : List Row → ℕ → Row → Type 0
IsRowOf rows n r = (1 ≤ n) × (slice_get rows (n - 1) ≡ Some r)

-- f is the form of m after the inclusion of b's form in a's, which is m's: the two have equal contexts, b is about another member, and
-- that one isn't in the context (COT 2009)
pub record IsInclusionOf (a b : Row) (m : Member) (f : Form) : Type 0 where
  pub member : a.at.member ≡ m
  pub equal : b.at.context ≡ a.at.context
  pub other : b.at.member ≢ m
  pub lacks : has a.at.context b.at.member ≡ false
  pub form : f ≡ form_over a.form b.form

-- the line is right after lines with these rows, and this is its row: a base has the base form of a member of the history, at the base
-- context; a step includes the form of line `over` in that of line `left`, and adds the member of `over` to the context
abbrev pub IsLine : List OpData → List Row → TraceLine → Row → Type 0
IsLine h rows (Base m f) r = (is_known h m ≡ true) × (f ≡ base_form h m) × (r ≡ record { at = pair m (base_context_of h m); form = f })
IsLine h rows (Step left over m f) r =
    (a : Row) × (b : Row) × IsRowOf rows left a × IsRowOf rows over b × IsInclusionOf a b m f
    × (r ≡ record { at = pair m (raised a.at.context b.at.member); form = f })

-- the lines are right, each after those before it and after lines with the first rows; all rows are these
abbrev pub AreLines : List OpData → List Row → List TraceLine → List Row → Type 0
AreLines h rows [] all = all ≡ rows
AreLines h rows (l ∷ ls) all = (r : Row) × IsLine h rows l r × AreLines h (rows ++ r ∷ []) ls all

-- the operations before the one that is this member; all of them if there is none
abbrev pub before : List OpData → Member → List OpData
before [] m = []
before (o ∷ os) m = if member_eq (member_of o) m then [] else o ∷ before os m

-- the context at which m was executed: all members that the history holds before m
abbrev pub context_before : List OpData → Member → ContextData
context_before h m = context_of_all (before h m)

-- a trace of m: the lines are right, and the last one is about m at all members that the history holds before m
pub record IsTrace (h : List OpData) (m : Member) (lines : List TraceLine) : Type 0 where
  pub earlier : List Row
  pub last : Row
  pub right : AreLines h [] lines (earlier ++ last ∷ [])
  pub executed : last.at ≡ pair m (context_before h m)
