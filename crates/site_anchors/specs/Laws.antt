-- The law of cells.
use Rattle.std.specs.Prelude.{◌≡◌, List, [], ◌∷◌, filter, if◌then◌else◌}
use Rattle.context_diff.specs.Operations.{OpData}
use Rattle.context_diff.specs.Histories.{IsValid}
use Rattle.context_diff.specs.Replays.{Cell, replay_of}
use Rattle.site_anchors.specs.Anchors.{is_same, has_cell}

-- each cell of an insert of the history stands once in its replay, and no other cell does
abbrev pub EachCellStandsOnce : Type 0
EachCellStandsOnce = (h : List OpData) (c : Cell) → IsValid h → filter (is_same c) (replay_of h) ≡ (if has_cell h c then c ∷ [] else [])
