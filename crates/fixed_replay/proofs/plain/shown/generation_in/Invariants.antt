use Rattle.std.proofs.Common.{◌≡◌, max, map, drop}
use Rattle.context_diff.specs.Ops.{data_of}
use Rattle.context_diff.specs.Histories.{generation_in}
use Rattle.fixed_replay.proofs.plain.shown.generation_in.Given as goal

-- the greatest so far, or one of the operations that are left
abbrev pub invariant-loop-op : goal.invariant-loop-op
invariant-loop-op l = generation_in (map data_of l.ops) l.name ≡ max l.greatest (generation_in (map data_of (drop l.op-index l.ops)) l.name)
