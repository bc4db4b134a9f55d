use Rattle.std.proofs.Common.{◌≡◌, ◌++◌, map, drop}
use Rattle.context_diff.specs.Ops.{data_of}
use Rattle.fixed_replay.specs.Code.PlainCells.{characters_among}
use Rattle.fixed_replay.proofs.plain.shown.shown_characters.Given as goal

-- the characters so far, and those of the cells that are left
abbrev pub invariant-loop-cell : goal.invariant-loop-cell
invariant-loop-cell l =
    l.characters.items ++ characters_among (map data_of l.ops) (drop l.cell-index l.cells) ≡ characters_among (map data_of l.ops) l.cells
