use Rattle.std.proofs.Common.{◌≡◌, ◌+◌, drop}
use Rattle.context_diff.specs.Code.GapEnds.{before_first}
use Rattle.fixed_replay.specs.Code.PlainCells.{sees}
use Rattle.fixed_replay.proofs.plain.places.first_known.Given as goal

-- none of the cells so far is known
abbrev pub invariant-loop-i : goal.invariant-loop-i
invariant-loop-i l = before_first (sees l.inserted) l.cells ≡ l.i + before_first (sees l.inserted) (drop l.i l.cells)
