use Rattle.std.proofs.Common.{◌≡◌, ◌≤◌, length, map, drop}
use Rattle.context_diff.specs.Code.GapEnds.{gap_between}
use Rattle.context_diff.specs.Replays.{narrowed, gap_of}
use Rattle.fixed_replay.specs.Code.PlainCells.{insertion_of}
use Rattle.fixed_replay.proofs.plain.places.stretch_of.Given as goal

-- the inserts that are left narrow this stretch to the gap
abbrev pub invariant-loop-other : goal.invariant-loop-other
invariant-loop-other l = record {
  stretch : gap_of (insertion_of l.inserted) (map insertion_of l.earlier) l.cells
      ≡ narrowed (insertion_of l.inserted) (map insertion_of (drop l.other-index l.earlier))
      (gap_between l.cells l.stretch.left l.stretch.right);
  rising : l.stretch.left ≤ l.stretch.right;
  within : l.stretch.right ≤ length l.cells;
}
