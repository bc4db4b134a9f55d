-- The law of undoers.
use Rattle.std.specs.Prelude.{◌≡◌, ℕ, List}
use Rattle.op_name.specs.NameData.{NameData}
use Rattle.context_diff.specs.Operations.{OpData}
use Rattle.context_diff.specs.Histories.{IsValid}
use Rattle.site_ranges.specs.Undoers.{IsLastUndoer}

-- in a valid history at most one site is the last to undo or redo an original
abbrev pub LastUndoersAreOne : Type 0
LastUndoersAreOne = (h : List OpData) (t : NameData) (a b : ℕ) → IsValid h → IsLastUndoer h t a → IsLastUndoer h t b → a ≡ b
