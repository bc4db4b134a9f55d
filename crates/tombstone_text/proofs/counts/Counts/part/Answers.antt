use Rattle.std.proofs.Common.{length, ap, arith}
use Rattle.tombstone_text.proofs.Texts.{part-le}
use Rattle.tombstone_text.proofs.counts.Counts.part.Goals as goal

pub overflow_cast-result : goal.overflow_cast-result
overflow_cast-result c =
    let n = ap (λ v. length v.parts) c.self.view_is in
    let ps = c.self.inside.sums.parts in
    omega (arith, c.part.ensures, c.self.invariant, part-le ps c.args.i (omega (arith, n, c.requires)))
