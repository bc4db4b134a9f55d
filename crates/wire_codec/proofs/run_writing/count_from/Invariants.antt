use Rattle.std.proofs.Common.{◌≡◌, ◌+◌, length, drop}
use Rattle.wire_codec.specs.Runs.{in_front, runs_of}
use Rattle.wire_codec.proofs.run_writing.count_from.Given as goal

abbrev pub invariant-loop-entry : goal.invariant-loop-entry
invariant-loop-entry l =
    l.count + length (in_front l.listing l.run (runs_of l.listing (drop l.entry-index l.entries)))
    ≡ 1 + length (in_front l.listing l.fn.first (runs_of l.listing l.entries))
