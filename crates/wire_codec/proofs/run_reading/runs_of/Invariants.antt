use Rattle.std.proofs.Common.{◌≡◌, ◌*◌, ◌≤◌}
use Rattle.op_name.specs.declared.name.TheConstants.{NUMBERS}
use Rattle.wire_codec.proofs.Steps.{IsBytes}
use Rattle.wire_codec.proofs.RunLoops.{RunsUnderWay}
use Rattle.wire_codec.proofs.run_reading.runs_of.Given as goal

abbrev pub invariant-loop : goal.invariant-loop
invariant-loop l =
    RunsUnderWay l.listing l.len l.fn.left l.counter (record { run = l.before; names = l.names }) l.left
    × (l.bytes ≡ l.fn.left.bytes)
    × (l.names ≤ NUMBERS * l.counter)
    × IsBytes l.fn.left.bytes
