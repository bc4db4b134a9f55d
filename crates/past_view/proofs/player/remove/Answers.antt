use Rattle.std.proofs.Common.{arith}
use Rattle.past_view.proofs.Bytes.{byte_removed}
use Rattle.past_view.proofs.player.remove.Goals as goal

pub loop-k-preserved : goal.loop-k-preserved
loop-k-preserved c =
    byte_removed c.args.text.now.items c.loop-k.text.items c.remove.new.self.items c.args.at c.loop-k._k (omega (arith, c.requires))
    c.loop-k.invariant
    c.remove.ensures.by_index.2
