use Rattle.std.proofs.Common.{length, ap, arith}
use Rattle.tombstone_text.specs.declared.measure.Measure.TheVariants.{Bytes, Units, Lines}
use Rattle.tombstone_text.proofs.weights.Weights.at.Goals as goal

pub part-requires : goal.part-requires
part-requires c = omega (arith, c.requires Bytes, ap (λ v. length v.bytes) c.self.view_is)

pub part-requires-2 : goal.part-requires-2
part-requires-2 c = omega (arith, c.requires Units, ap (λ v. length v.units) c.self.view_is)

pub part-requires-3 : goal.part-requires-3
part-requires-3 c = omega (arith, c.requires Lines, ap (λ v. length v.lines) c.self.view_is)
