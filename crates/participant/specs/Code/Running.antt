-- What edits and the loops of runs go by: what is released after an operation, undos and redos as one kind of edit, and what an edit that
-- isn't wholly done does to a run.
use Rattle.std.specs.Prelude.{⊤, ◌≡◌, ℕ, ◌+◌, Bool, true, false, Result, Ok, Err}
use Rattle.op_name.specs.NameData.{NameData}
use Rattle.context_diff.specs.Operations.{OpData}
use Rattle.context_diff.specs.declared.op.Op.{Op}
use Rattle.context_diff.specs.Ops.{data_of}
use Rattle.participant.specs.declared.edits.Edit.{Edit}
use Rattle.participant.specs.declared.edits.Edit.TheVariants.{Undo, Redo}
use Rattle.participant.specs.declared.edits.Stopped.{Stopped}
use Rattle.participant.specs.declared.edits.Stopped.TheVariants.{Refused, Unsettled}
use Rattle.participant.specs.Reached.{Reached, all_settled, IsHalfSettled}
use Rattle.participant.specs.Runs.{is_passed}

-- the redo of a name, or its undo
abbrev pub turning : Bool → NameData → Edit
turning true t = Redo t
turning false t = Undo t

-- a refused edit is passed over, or the run stops at it; one whose operation was made is counted, and the run stops
abbrev pub IsStop : Edit → Stopped → Result ⊤ Stopped → ℕ → ℕ → Type 0
IsStop e (Refused why) (Ok u) old new = (is_passed e why ≡ true) × (new ≡ old)
IsStop e (Refused why) (Err cause) old new = (is_passed e why ≡ false) × (cause ≡ Refused why) × (new ≡ old)
IsStop e Unsettled (Ok u) old new = ⊥
IsStop e Unsettled (Err cause) old new = (cause ≡ Unsettled) × (new ≡ old + 1)

-- all that was ready after this operation is released, or the first of that
abbrev pub IsReleased : OpData → Reached → Result Op Stopped → Reached → Type 0
IsReleased o a (Ok p) b = (data_of p ≡ o) × (b ≡ all_settled a)
IsReleased o a (Err (Refused why)) b = ⊥
IsReleased o a (Err Unsettled) b = IsHalfSettled a b
