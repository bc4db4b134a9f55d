use Rattle.std.proofs.Common.{◌≡◌, map, drop}
use Rattle.context_diff.specs.Ops.{data_of}
use Rattle.context_diff.specs.Replays.{fixed_order}
use Rattle.fixed_replay.specs.Code.PlainCells.{insertion_of}
use Rattle.fixed_replay.proofs.plain.order.fixed_order.Given as goal

-- the operations from this one on are in order
abbrev pub invariant-loop-i : goal.invariant-loop-i
invariant-loop-i l = map insertion_of l.order.items ≡ fixed_order (map data_of (drop l.i l.ops))
