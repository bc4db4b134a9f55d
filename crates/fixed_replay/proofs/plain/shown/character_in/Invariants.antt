use Rattle.std.proofs.Common.{◌≡◌, map, drop}
use Rattle.context_diff.specs.Ops.{data_of}
use Rattle.context_diff.specs.Replays.{character_in}
use Rattle.fixed_replay.proofs.plain.shown.character_in.Given as goal

-- no insert so far has the name
abbrev pub invariant-loop-op : goal.invariant-loop-op
invariant-loop-op l =
    character_in (map data_of l.ops) l.cell ≡ character_in (map data_of (drop l.op-index l.ops)) l.cell
