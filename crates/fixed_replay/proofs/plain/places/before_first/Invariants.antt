use Rattle.std.proofs.Common.{◌≡◌, ◌+◌, drop}
use Rattle.context_diff.specs.Code.GapEnds.{before_first}
use Rattle.context_diff.specs.Replays.{first_of}
use Rattle.fixed_replay.proofs.plain.places.before_first.Given as goal

-- none of the cells so far is the insert's first one
abbrev pub invariant-loop-i : goal.invariant-loop-i
invariant-loop-i l = before_first (first_of l.inserted.name) l.cells ≡ l.i + before_first (first_of l.inserted.name) (drop l.i l.cells)
