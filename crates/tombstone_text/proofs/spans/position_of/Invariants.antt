use Rattle.std.proofs.Common.{◌≡◌, ◌-◌, ◌≤◌, length, take}
use Rattle.tombstone_text.specs.Chunks.{flat}
use Rattle.tombstone_text.specs.Code.Cells.{is_sought}
use Rattle.tombstone_text.specs.Code.Spans.{pieces, cells_in}
use Rattle.tombstone_text.proofs.Searches.{NoneBefore}
use Rattle.tombstone_text.proofs.spans.position_of.Given as goal

abbrev pub invariant-loop-i : goal.invariant-loop-i
invariant-loop-i l =
    (l.i ≤ length l.spans) × (l.start ≡ length (flat (take l.i (pieces l.spans))))
    × NoneBefore (is_sought l.sought) (cells_in l.spans) l.start

abbrev pub decreases-loop-i : goal.decreases-loop-i
decreases-loop-i l = length l.spans - l.i
