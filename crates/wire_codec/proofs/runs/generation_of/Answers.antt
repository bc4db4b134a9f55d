use Rattle.std.proofs.Common.{◌∙◌, sym}
use Rattle.wire_codec.proofs.RunPushes.{found_here, found_later}
use Rattle.wire_codec.proofs.runs.generation_of.Goals as goal

pub returns-then-holds : goal.returns-then-holds
returns-then-holds c =
    c.generation.ensures
    ∙ sym (found_here c.args.runs.now c.loop-run.run-iterator c.next.new.self c.in-Some.run' c.args.name.now c.holds.result
    c.loop-run.invariant c.in-Some.ensures.steps c.holds.ensures c.if-holds.true)

pub loop-run-preserved : goal.loop-run-preserved
loop-run-preserved c =
    found_later c.args.runs.now c.loop-run.run-iterator c.next.new.self c.in-Some.run' c.args.name.now c.holds.result
    c.loop-run.invariant c.in-Some.ensures.steps c.holds.ensures c.if-holds.false
