-- What the reader holds was received in this call, and the rest of the wire is as it was.
use Rattle.std.proofs.Common.{◌≡◌, length, ◌-◌}
use Rattle.outside_io.specs.Ends.{KeepLinked}
use Rattle.peer_exchange.specs.declared.messages.TheConstants.{MAX_MESSAGE}
use Rattle.site_node.specs.Moves.{Receives}
use Rattle.site_node.specs.Code.Reading.{IsPart}
use Rattle.site_node.proofs.receiving.receive.Given as goal

abbrev pub invariant-loop-reader : goal.invariant-loop-reader
invariant-loop-reader g l = record {
  part : IsPart l.reader.which l.reader.bytes;
  which : l.reader.which ≡ l.fn.which;
  came : Receives (g.W.Wire.ends l.fn.wire l.fn.end) (g.W.Wire.ends l.wire l.fn.end) l.reader.bytes;
  other_end : g.W.Wire.ends l.wire (1 - l.fn.end) ≡ g.W.Wire.ends l.fn.wire (1 - l.fn.end);
  kept : KeepLinked (g.W.Wire.ends l.fn.wire) (g.W.Wire.ends l.wire);
  asked : g.W.Wire.asked l.wire ≡ g.W.Wire.asked l.fn.wire;
  asks : g.W.Wire.asks l.wire ≡ g.W.Wire.asks l.fn.wire;
  peer : g.W.Wire.peer l.wire ≡ g.W.Wire.peer l.fn.wire;
  faultless : g.W.Wire.faults l.wire ≡ g.W.Wire.faults l.fn.wire;
}

abbrev pub decreases-loop-reader : goal.decreases-loop-reader
decreases-loop-reader g l = MAX_MESSAGE - length l.reader.bytes
