use Rattle.std.proofs.Common.{arith}
use Rattle.tombstone_text.proofs.Texts.{part-le}
use Rattle.tombstone_text.proofs.counts.Counts.find.Goals as goal

pub overflow_cast-result : goal.overflow_cast-result
overflow_cast-result c =
    let ps = c.self.inside.sums.parts in
    let at = c.find-i.ensures in
    omega (arith, at.within, c.self.invariant, part-le ps c.find-i.result.0 at.part)
