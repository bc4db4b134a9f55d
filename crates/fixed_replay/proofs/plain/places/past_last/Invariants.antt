use Rattle.std.proofs.Common.{◌≡◌, ◌≤◌, drop}
use Rattle.context_diff.specs.Code.GapEnds.{up_to_last}
use Rattle.context_diff.specs.Replays.{last_of}
use Rattle.fixed_replay.specs.Code.PlainCells.{insertion_of}
use Rattle.fixed_replay.proofs.Searches.{last_from}
use Rattle.fixed_replay.proofs.plain.places.past_last.Given as goal

-- the last cell that passes is among those that are left, or the last one so far
abbrev pub invariant-loop-i : goal.invariant-loop-i
invariant-loop-i l = record {
  place : up_to_last (last_of (insertion_of l.inserted)) l.cells
      ≡ last_from (last_of (insertion_of l.inserted)) l.past l.i (drop l.i l.cells);
  within : l.past ≤ l.i;
}
