use Rattle.std.proofs.Common.{map, ap, ◌∙◌}
use Rattle.fixed_replay.specs.Code.PlainCells.{insertion_of}
use Rattle.fixed_replay.proofs.Stepwise.{order_none}
use Rattle.fixed_replay.proofs.plain.order.fixed_order.Goals as goal

pub loop-i-init : goal.loop-i-init
loop-i-init c = ap (map insertion_of) c.new-order.ensures.items ∙ order_none c.args.ops.now
