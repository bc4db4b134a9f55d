use Rattle.std.proofs.Common.{◌≡◌, ◌++◌}
use Rattle.wire_codec.proofs.vectors.copied.Given as goal

abbrev pub invariant-loop-ch : goal.invariant-loop-ch
invariant-loop-ch l = l.chars.items ++ l.ch-iterator ≡ l.text
