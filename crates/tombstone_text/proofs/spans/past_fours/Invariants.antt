use Rattle.std.proofs.Common.{◌≡◌, ◌+◌, ◌-◌, ◌≤◌, length, take}
use Rattle.tombstone_text.specs.Chunks.{flat}
use Rattle.tombstone_text.specs.Code.Spans.{pieces}
use Rattle.tombstone_text.proofs.spans.past_fours.Given as goal

abbrev pub invariant-loop-i : goal.invariant-loop-i
invariant-loop-i l = (l.i ≤ length l.spans) × (length (flat (take l.i (pieces l.spans))) + l.left ≡ l.at)

abbrev pub decreases-loop-i : goal.decreases-loop-i
decreases-loop-i l = length l.spans - l.i
