use Rattle.std.proofs.Common.{◌≡◌, map, drop}
use Rattle.std.specs.List.{list_any}
use Rattle.context_diff.specs.Ops.{data_of}
use Rattle.context_diff.specs.Replays.{covers}
use Rattle.fixed_replay.proofs.plain.shown.is_covered.Given as goal

-- no operation so far covers the cell
abbrev pub invariant-loop-op : goal.invariant-loop-op
invariant-loop-op l =
    list_any (covers (map data_of l.ops) l.cell) (map data_of l.ops)
    ≡ list_any (covers (map data_of l.ops) l.cell) (map data_of (drop l.op-index l.ops))
