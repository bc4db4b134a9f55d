use Rattle.std.proofs.Common.{◌≡◌, ◌++◌, take}
use Rattle.std.specs.List.{flat_map}
use Rattle.wire_codec.specs.Spelling.{character_bytes}
use Rattle.checkpoint_codec.proofs.writing.put_each_character.Given as goal

abbrev pub invariant-loop-ch : goal.invariant-loop-ch
invariant-loop-ch l = l.out.items ≡ l.fn.out.items ++ flat_map character_bytes (take l.ch-index l.chars)
