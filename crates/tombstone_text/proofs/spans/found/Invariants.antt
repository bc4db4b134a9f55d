use Rattle.std.proofs.Common.{◌≡◌, false, take}
use Rattle.tombstone_text.specs.Chunks.{flat}
use Rattle.tombstone_text.specs.Code.Inserts.{LacksRun}
use Rattle.tombstone_text.specs.Code.Spans.{pieces}
use Rattle.tombstone_text.proofs.spans.found.Given as goal

abbrev pub invariant-loop-i : goal.invariant-loop-i
invariant-loop-i l = l.any ≡ false → LacksRun l.name (flat (take l.i (pieces l.spans)))
