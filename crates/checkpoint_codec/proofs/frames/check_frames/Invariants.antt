use Rattle.std.proofs.Common.{length, drop}
use Rattle.checkpoint_codec.proofs.FrameSteps.{IsPassed}
use Rattle.checkpoint_codec.proofs.frames.check_frames.Given as goal

-- some frames were passed over
abbrev pub invariant-loop-left : goal.invariant-loop-left
invariant-loop-left l = IsPassed (drop l.at l.bytes) l.at l.offset l.left

abbrev pub decreases-loop-left : goal.decreases-loop-left
decreases-loop-left l = length l.left
