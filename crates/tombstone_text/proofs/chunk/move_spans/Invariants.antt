use Rattle.std.proofs.Common.{◌≡◌, ◌+◌, ◌≤◌, ◌++◌, length, reverse}
use Rattle.std.specs.Prelude.{vec_capacity}
use Rattle.tombstone_text.proofs.chunk.move_spans.Given as goal

abbrev pub invariant-loop-from : goal.invariant-loop-from
invariant-loop-from l =
    (l.from.items ++ reverse l.to.items ≡ l.fn.from.items) × (length l.from.items + length l.to.items ≡ length l.fn.from.items)
    × (l.keep ≤ length l.from.items)
    × (vec_capacity l.from ≡ vec_capacity l.fn.from) × (vec_capacity l.to ≡ vec_capacity l.fn.to)

abbrev pub decreases-loop-from : goal.decreases-loop-from
decreases-loop-from l = length l.from.items
