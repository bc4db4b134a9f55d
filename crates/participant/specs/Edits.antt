-- One edit of a site's user, with the releases after it.
use Rattle.std.specs.Prelude.{◌≡◌, Result, Ok, Err}
use Rattle.context_diff.specs.Operations.{OpData}
use Rattle.context_diff.specs.declared.op.Op.{Op}
use Rattle.context_diff.specs.Ops.{data_of}
use Rattle.site_answers.specs.declared.local.Local.{Local}
use Rattle.cot_site.specs.States.{State}
use Rattle.cot_site.specs.Commands.{local_run, local_delete, local_undo, local_redo, IsAnswer}
use Rattle.participant.specs.declared.edits.Edit.{Edit}
use Rattle.participant.specs.declared.edits.Edit.TheVariants.{Insert, Delete, Undo, Redo}
use Rattle.participant.specs.declared.edits.Stopped.{Stopped}
use Rattle.participant.specs.declared.edits.Stopped.TheVariants.{Refused, Unsettled}
use Rattle.participant.specs.Reached.{Reached, with_one, all_settled, IsHalfSettled}

-- the operation that an edit makes at a site, or why there is none
abbrev pub made_by : Edit → State → Result OpData Local
made_by (Insert v text) s = local_run s v text
made_by (Delete v) s = local_delete s v
made_by (Undo t) s = local_undo s t
made_by (Redo t) s = local_redo s t

-- there is an operation, which was made, and memory ran out among the releases after it
pub record IsLeftUnsettled (r : Result OpData Local) (a b : Reached) : Type 0 where
  pub op : OpData
  pub is : r ≡ Ok op
  pub half : IsHalfSettled (with_one a op) b

-- Done: where the definition has an operation, it was made, and all that was ready then is released, or the first of that; or else
-- nothing was done, for the reason of the definition or out of memory
abbrev pub IsDone : Result OpData Local → Reached → Result Op Stopped → Reached → Type 0
IsDone r a (Ok o) b = (r ≡ Ok (data_of o)) × (b ≡ all_settled (with_one a (data_of o)))
IsDone r a (Err (Refused why)) b = IsAnswer r (Err why) × (b ≡ a)
IsDone r a (Err Unsettled) b = IsLeftUnsettled r a b

-- the answer is of an edit whose operation was made
abbrev pub HasMade : Result Op Stopped → Type 0
HasMade (Ok o) = Unit {0}
HasMade (Err (Refused why)) = ⊥
HasMade (Err Unsettled) = Unit {0}
