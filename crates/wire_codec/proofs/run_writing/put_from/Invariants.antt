use Rattle.std.proofs.Common.{drop}
use Rattle.wire_codec.specs.Runs.{in_front, runs_of}
use Rattle.wire_codec.proofs.RunWriting.{RunsPut}
use Rattle.wire_codec.proofs.run_writing.put_from.Given as goal

abbrev pub invariant-loop-entry : goal.invariant-loop-entry
invariant-loop-entry l =
    RunsPut l.listing l.initial.out (in_front l.listing l.fn.first (runs_of l.listing l.entries))
    (in_front l.listing l.run (runs_of l.listing (drop l.entry-index l.entries))) l.out
