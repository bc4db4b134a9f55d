use Rattle.std.proofs.Common.{length, ap, arith}
use Rattle.std.specs.List.{sum}
use Rattle.tombstone_text.specs.declared.measure.Measure.TheVariants.{Bytes, Units, Lines}
use Rattle.tombstone_text.proofs.weights.Weights.add.Goals as goal

pub insert-requires-clause-within : goal.insert-requires-clause-within
insert-requires-clause-within c = omega (arith, c.requires.within Bytes, ap (λ v. length v.bytes) c.self.view_is)

pub insert-requires-clause-low : goal.insert-requires-clause-low
insert-requires-clause-low c = omega (arith, c.requires.low Bytes, ap (λ v. sum v.bytes) c.self.view_is)

pub insert-requires-2-clause-within : goal.insert-requires-2-clause-within
insert-requires-2-clause-within c = omega (arith, c.requires.within Units, ap (λ v. length v.units) c.self.view_is)

pub insert-requires-2-clause-low : goal.insert-requires-2-clause-low
insert-requires-2-clause-low c = omega (arith, c.requires.low Units, ap (λ v. sum v.units) c.self.view_is)

pub insert-requires-3-clause-within : goal.insert-requires-3-clause-within
insert-requires-3-clause-within c = omega (arith, c.requires.within Lines, ap (λ v. length v.lines) c.self.view_is)

pub insert-requires-3-clause-low : goal.insert-requires-3-clause-low
insert-requires-3-clause-low c = omega (arith, c.requires.low Lines, ap (λ v. sum v.lines) c.self.view_is)
