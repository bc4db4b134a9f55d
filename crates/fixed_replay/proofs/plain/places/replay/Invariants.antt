use Rattle.std.proofs.Common.{◌≡◌, [], map, take, drop}
use Rattle.context_diff.specs.Replays.{replay}
use Rattle.fixed_replay.specs.Code.PlainCells.{insertion_of}
use Rattle.fixed_replay.proofs.plain.places.replay.Given as goal

-- what is left of the replay begins at these cells
abbrev pub invariant-loop-i : goal.invariant-loop-i
invariant-loop-i l =
    replay [] [] (map insertion_of l.order)
    ≡ replay (map insertion_of (take l.i l.order)) l.cells.items (map insertion_of (drop l.i l.order))
