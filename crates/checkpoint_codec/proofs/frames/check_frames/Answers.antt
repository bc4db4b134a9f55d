use Rattle.std.proofs.Common.{drop}
use Rattle.checkpoint_codec.proofs.FrameSteps.{one_passed}
use Rattle.checkpoint_codec.proofs.frames.check_frames.Goals as goal

pub loop-left-preserved : goal.loop-left-preserved
loop-left-preserved c =
    one_passed (drop c.args.at c.args.bytes.now) c.args.at c.loop-left.offset c.loop-left.left.now c.split_at-in-Frame.result.1.now
    c.in-Frame.used c.loop-left.invariant c.in-Frame.ensures.says c.split_at-in-Frame.ensures.back
