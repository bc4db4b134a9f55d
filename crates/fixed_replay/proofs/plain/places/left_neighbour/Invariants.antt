use Rattle.std.proofs.Common.{◌≡◌, ◌+◌, drop}
use Rattle.context_diff.specs.Code.GapEnds.{up_to_nth}
use Rattle.fixed_replay.specs.Code.PlainCells.{sees}
use Rattle.fixed_replay.proofs.plain.places.left_neighbour.Given as goal

-- so many more of the cells that are left are to be passed
abbrev pub invariant-loop-i : goal.invariant-loop-i
invariant-loop-i l = up_to_nth (sees l.inserted) l.inserted.place l.cells ≡ l.i + up_to_nth (sees l.inserted) l.more (drop l.i l.cells)
