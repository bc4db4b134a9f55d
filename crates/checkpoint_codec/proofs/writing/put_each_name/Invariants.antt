use Rattle.std.proofs.Common.{◌≡◌, ◌++◌, take}
use Rattle.std.specs.List.{flat_map}
use Rattle.checkpoint_codec.specs.Spelling.{undone_bytes}
use Rattle.checkpoint_codec.proofs.writing.put_each_name.Given as goal

abbrev pub invariant-loop-entry : goal.invariant-loop-entry
invariant-loop-entry l = l.out.items ≡ l.fn.out.items ++ flat_map undone_bytes (take l.entry-index l.undone)
