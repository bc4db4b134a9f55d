-- What the reader holds came at the other end, of the bytes up to `at`, which went; and the rest of the wire is as it was.
use Rattle.std.proofs.Common.{◌≡◌, length, ◌+◌, ◌-◌, ◌≤◌}
use Rattle.outside_io.specs.Ends.{KeepLinked}
use Rattle.peer_exchange.specs.declared.messages.TheConstants.{MAX_MESSAGE}
use Rattle.site_node.specs.declared.carrying.TheConstants.{UNDER_WAY}
use Rattle.site_node.specs.Code.Reading.{IsPart}
use Rattle.site_node.proofs.Carriages.{Carrying}
use Rattle.site_node.proofs.carrying.carry.Given as goal

abbrev pub invariant-loop-next : goal.invariant-loop-next
invariant-loop-next g l = record {
  part : IsPart l.reader.which l.reader.bytes;
  within : l.at ≤ length l.bytes;
  under_way : l.at ≤ length l.reader.bytes + UNDER_WAY;
  which : l.reader.which ≡ l.fn.which;
  carrying : Carrying (g.W.Wire.ends l.fn.wire l.fn.from) (g.W.Wire.ends l.wire l.fn.from) (g.W.Wire.ends l.fn.wire (1 - l.fn.from))
      (g.W.Wire.ends l.wire (1 - l.fn.from)) l.bytes l.at l.reader.bytes;
  kept : KeepLinked (g.W.Wire.ends l.fn.wire) (g.W.Wire.ends l.wire);
  received : (g.W.Wire.ends l.wire l.fn.from).received ≡ (g.W.Wire.ends l.fn.wire l.fn.from).received;
  to_come : (g.W.Wire.ends l.wire l.fn.from).to_come ≡ (g.W.Wire.ends l.fn.wire l.fn.from).to_come;
  other_sent : (g.W.Wire.ends l.wire (1 - l.fn.from)).sent ≡ (g.W.Wire.ends l.fn.wire (1 - l.fn.from)).sent;
  asked : g.W.Wire.asked l.wire ≡ g.W.Wire.asked l.fn.wire;
  asks : g.W.Wire.asks l.wire ≡ g.W.Wire.asks l.fn.wire;
  peer : g.W.Wire.peer l.wire ≡ g.W.Wire.peer l.fn.wire;
  faultless : g.W.Wire.faults l.wire ≡ g.W.Wire.faults l.fn.wire;
}

abbrev pub decreases-loop-next : goal.decreases-loop-next
decreases-loop-next g l = MAX_MESSAGE - length l.reader.bytes
