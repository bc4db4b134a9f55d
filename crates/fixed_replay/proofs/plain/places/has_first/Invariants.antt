use Rattle.std.proofs.Common.{◌≡◌, drop}
use Rattle.std.specs.List.{list_any}
use Rattle.context_diff.specs.Replays.{first_of}
use Rattle.fixed_replay.proofs.plain.places.has_first.Given as goal

-- the cell is none of those so far
abbrev pub invariant-loop-cell : goal.invariant-loop-cell
invariant-loop-cell l = list_any (first_of l.inserted.name) l.cells ≡ list_any (first_of l.inserted.name) (drop l.cell-index l.cells)
