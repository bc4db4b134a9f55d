use Rattle.std.proofs.Common.{◌≡◌, ◌++◌, take}
use Rattle.std.specs.List.{flat_map}
use Rattle.checkpoint_codec.specs.Spelling.{placed_bytes}
use Rattle.checkpoint_codec.proofs.writing.put_each_original.Given as goal

abbrev pub invariant-loop-placed : goal.invariant-loop-placed
invariant-loop-placed l = l.out.items ≡ l.fn.out.items ++ flat_map placed_bytes (take l.placed-index l.originals)
