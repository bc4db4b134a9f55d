use Rattle.std.proofs.Common.{◌≡◌, ◌≤◌, ◌-◌, length, take}
use Rattle.tombstone_text.specs.Chunks.{flat}
use Rattle.tombstone_text.specs.Code.Cells.{is_sought}
use Rattle.tombstone_text.specs.Code.Chunks.{bodies}
use Rattle.tombstone_text.proofs.Searches.{NoneBefore}
use Rattle.tombstone_text.proofs.chunks.Chunks.first_place.Given as goal

abbrev pub invariant-loop-i : goal.invariant-loop-i
invariant-loop-i l =
    (l.i ≤ length (bodies l.self-inside.list.items)) × (l.start ≡ length (flat (take l.i (bodies l.self-inside.list.items))))
    × NoneBefore (is_sought l.sought) (flat (bodies l.self-inside.list.items)) l.start

abbrev pub decreases-loop-i : goal.decreases-loop-i
decreases-loop-i l = length (bodies l.self-inside.list.items) - l.i
