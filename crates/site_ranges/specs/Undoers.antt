-- Who undid or redid an original.
use Rattle.std.specs.Prelude.{ℕ, List, Contains}
use Rattle.op_name.specs.NameData.{NameData}
use Rattle.context_vector.specs.Contexts.{ContextData}
use Rattle.context_diff.specs.Operations.{OpData, undoing}
use Rattle.context_diff.specs.Histories.{generation_in}

-- the history has the undo or redo of the original at this generation, made by this site
pub record IsUndoer (h : List OpData) (t : NameData) (g author : ℕ) : Type 0 where
  pub context : ContextData
  pub there : Contains h (undoing author t g context)

-- the site made the undo or redo of the original's greatest generation in the history
abbrev pub IsLastUndoer : List OpData → NameData → ℕ → Type 0
IsLastUndoer h t author = IsUndoer h t (generation_in h t) author
