use Rattle.std.proofs.Common.{◌≡◌, length, map, take}
use Rattle.tombstone_text.specs.Chunks.{flag_of, flat}
use Rattle.tombstone_text.specs.Code.Spans.{cells_in, pieces, raised_run}
use Rattle.tombstone_text.proofs.Raising.{changed_first}
use Rattle.tombstone_text.proofs.spans.raise.Given as goal

abbrev pub invariant-loop-i : goal.invariant-loop-i
invariant-loop-i l =
    (pieces l.spans.items ≡ changed_first l.i (map (raised_run l.generation l.name)) (pieces l.fn.spans.items))
    × (length l.spans.items ≡ length l.fn.spans.items) × (l.flags ≡ map flag_of (cells_in l.spans.items))
    × (l.at ≡ length (flat (take l.i (pieces l.spans.items))))
