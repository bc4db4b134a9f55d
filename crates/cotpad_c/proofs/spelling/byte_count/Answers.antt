use Rattle.std.proofs.Common.{arith}
use Rattle.cotpad_c.proofs.Characters.{one_longer}
use Rattle.cotpad_c.proofs.spelling.byte_count.Goals as goal

pub loop-ch-preserved : goal.loop-ch-preserved
loop-ch-preserved c =
    let longer = one_longer c.args.chars.now c.loop-ch.ch-index c.ch-item.result c.loop-ch-test.true c.ch-item.is in (
      omega (arith, longer, c.loop-ch.invariant.0, c.len_utf8-count.ensures.len),
      omega (arith, c.loop-ch.invariant.1, c.len_utf8-count.ensures.upper_bound),
    )
