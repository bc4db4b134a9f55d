use Rattle.std.proofs.Common.{List, length}
use Rattle.context_diff.specs.Operations.{OpData}
use Rattle.session_log.proofs.Frames.{IsPassed}
use Rattle.session_log.proofs.reading.check.Given as goal

-- some operations were passed over
abbrev pub invariant-loop : goal.invariant-loop
invariant-loop l = (os : List OpData) × IsPassed l.bytes os l.left

abbrev pub decreases-loop : goal.decreases-loop
decreases-loop l = length l.left.bytes
