use Rattle.std.proofs.Common.{◌∙◌}
use Rattle.session_log.proofs.Frames.{passed_on}
use Rattle.session_log.proofs.reading.check.Goals as goal

pub loop-preserved : goal.loop-preserved
loop-preserved c =
    let told = c.in_ok-pass.ensures.step in
    passed_on c.args.bytes.now c.loop.left c.pass.new.self told.0 c.loop.invariant told.1 (told.2 ∙ c.if-not-branch.false)
