-- The laws of flat histories.
use Rattle.std.specs.Prelude.{◌↔◌, ◌≤◌, List, ◌++◌}
use Rattle.context_diff.specs.Operations.{OpData}
use Rattle.context_diff.specs.declared.op.TheConstants.{PLACES}
use Rattle.context_diff.specs.Histories.{IsValid, all_cells}
use Rattle.ttf_form.specs.declared.form.Form.{Form}
use Rattle.flat_history.specs.Checkpoints.{Checkpoint, IsCheckpoint, history_of}
use Rattle.flat_history.specs.Flat.{AreExecutedForms, checkpoint_of, flat_of}
use Rattle.flat_history.specs.Alike.{AreAlike, IsMadeAfter, AreMadeAfter, AreJudgedAlike}

-- a checkpoint is opened as a valid history
abbrev pub CheckpointsAreValid : Type 0
CheckpointsAreValid = (p : Checkpoint) → IsCheckpoint p → IsValid (history_of p)

-- a valid history has a checkpoint, if it has at most as many cells as places count
abbrev pub HistoriesHaveCheckpoints : Type 0
HistoriesHaveCheckpoints =
    (h : List OpData) (fs : List Form)
    → IsValid h
    → AreExecutedForms h fs
    → all_cells h ≤ PLACES
    → IsCheckpoint (checkpoint_of h fs)

-- Flat: the flat history is valid, has the members of the history, and shows the same
abbrev pub FlatIsAlike : Type 0
FlatIsAlike =
    (h : List OpData) (fs : List Form)
    → IsValid h
    → AreExecutedForms h fs
    → all_cells h ≤ PLACES
    → IsValid (flat_of h fs) × AreAlike h (flat_of h fs)

-- Flat, extends: operations that are new and whose originals know all of the history may follow the one exactly if they may follow
-- the other; then both show the same, and any further operation of that kind gets one verdict
abbrev pub FlatExtends : Type 0
FlatExtends =
    (h : List OpData) (fs : List Form) (l : List OpData)
    → IsValid h
    → AreExecutedForms h fs
    → all_cells h ≤ PLACES
    → AreMadeAfter h l
    → (IsValid (h ++ l) ↔ IsValid (flat_of h fs ++ l))
    × (IsValid (h ++ l) → AreAlike (h ++ l) (flat_of h fs ++ l))
    × ((o : OpData) → IsMadeAfter h o → AreJudgedAlike (h ++ l) (flat_of h fs ++ l) o)
