use Rattle.std.proofs.Common.{refl, sym, ◌∙◌}
use Rattle.fixed_replay.proofs.Stepwise.{replay_step, replay_end}
use Rattle.fixed_replay.proofs.plain.places.replay.Goals as goal

pub loop-i-preserved : goal.loop-i-preserved
loop-i-preserved c =
    c.loop-i.invariant
    ∙ replay_step c.args.order.now c.loop-i.i c.index-order-i.result c.loop-i.cells.items _ c.as_slice.result.now _
    c.stretch_of-stretch.result.left c.stretch_of-stretch.result.right
    c.loop-i-test.true c.index-order-i.is refl c.as_slice.ensures.value
    c.stretch_of-stretch.ensures.stretch c.stretch_of-stretch.ensures.rising c.in_ok-put_cells.ensures

pub returns : goal.returns
returns c = sym (c.loop-i.invariant ∙ replay_end c.args.order.now c.loop-i.i c.loop-i.cells.items c.loop-i-test.false)
