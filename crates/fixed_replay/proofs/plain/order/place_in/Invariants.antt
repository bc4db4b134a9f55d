use Rattle.std.proofs.Common.{◌≡◌, ◌+◌, drop}
use Rattle.context_diff.specs.Code.GapEnds.{before_first}
use Rattle.fixed_replay.specs.Code.PlainCells.{comes_before}
use Rattle.fixed_replay.proofs.plain.order.place_in.Given as goal

-- none of those so far is later
abbrev pub invariant-loop-i : goal.invariant-loop-i
invariant-loop-i l = before_first (comes_before l.inserted) l.order ≡ l.i + before_first (comes_before l.inserted) (drop l.i l.order)
