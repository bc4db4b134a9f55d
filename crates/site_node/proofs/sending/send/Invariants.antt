-- So far the bytes up to `at` were written, and the rest of the wire is as it was.
use Rattle.std.proofs.Common.{length, take, ◌-◌, ◌≤◌, ◌≡◌}
use Rattle.std.specs.Io.KnownBytes.{Appends}
use Rattle.outside_io.specs.Ends.{KeepLinked, brought}
use Rattle.site_node.proofs.sending.send.Given as goal

abbrev pub invariant-loop-at : goal.invariant-loop-at
invariant-loop-at g l = record {
  within : l.at ≤ length l.bytes;
  sent : Appends (g.W.Wire.ends l.fn.wire l.fn.end).sent (g.W.Wire.ends l.wire l.fn.end).sent (take l.at l.bytes);
  brought : Appends (g.W.Wire.ends l.fn.wire (1 - l.fn.end)).to_come (g.W.Wire.ends l.wire (1 - l.fn.end)).to_come
      (brought (g.W.Wire.asked l.fn.wire) (g.W.Wire.ends l.fn.wire (1 - l.fn.end)).linked (take l.at l.bytes));
  kept : KeepLinked (g.W.Wire.ends l.fn.wire) (g.W.Wire.ends l.wire);
  received : (g.W.Wire.ends l.wire l.fn.end).received ≡ (g.W.Wire.ends l.fn.wire l.fn.end).received;
  to_come : (g.W.Wire.ends l.wire l.fn.end).to_come ≡ (g.W.Wire.ends l.fn.wire l.fn.end).to_come;
  other_sent : (g.W.Wire.ends l.wire (1 - l.fn.end)).sent ≡ (g.W.Wire.ends l.fn.wire (1 - l.fn.end)).sent;
  other_received : (g.W.Wire.ends l.wire (1 - l.fn.end)).received ≡ (g.W.Wire.ends l.fn.wire (1 - l.fn.end)).received;
  asked : g.W.Wire.asked l.wire ≡ g.W.Wire.asked l.fn.wire;
  asks : g.W.Wire.asks l.wire ≡ g.W.Wire.asks l.fn.wire;
  peer : g.W.Wire.peer l.wire ≡ g.W.Wire.peer l.fn.wire;
  faultless : g.W.Wire.faults l.wire ≡ g.W.Wire.faults l.fn.wire;
}

abbrev pub decreases-loop-at : goal.decreases-loop-at
decreases-loop-at g l = length l.bytes - l.at
