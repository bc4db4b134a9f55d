use Rattle.std.proofs.Common.{length, set, ap, arith}
use Rattle.std.specs.List.{sum}
use Rattle.tombstone_text.specs.declared.measure.Measure.TheVariants.{Bytes, Units, Lines}
use Rattle.tombstone_text.proofs.weights.Weights.change.Goals as goal

pub set-requires-clause-within : goal.set-requires-clause-within
set-requires-clause-within c = omega (arith, c.requires.within Bytes, ap (λ v. length v.bytes) c.self.view_is)

pub set-requires-clause-low : goal.set-requires-clause-low
set-requires-clause-low c =
    omega (arith, c.requires.low Bytes, ap (λ v. sum (set v.bytes c.args.i c.args.weight.bytes)) c.self.view_is)

pub set-requires-2-clause-within : goal.set-requires-2-clause-within
set-requires-2-clause-within c = omega (arith, c.requires.within Units, ap (λ v. length v.units) c.self.view_is)

pub set-requires-2-clause-low : goal.set-requires-2-clause-low
set-requires-2-clause-low c =
    omega (arith, c.requires.low Units, ap (λ v. sum (set v.units c.args.i c.args.weight.units)) c.self.view_is)

pub set-requires-3-clause-within : goal.set-requires-3-clause-within
set-requires-3-clause-within c = omega (arith, c.requires.within Lines, ap (λ v. length v.lines) c.self.view_is)

pub set-requires-3-clause-low : goal.set-requires-3-clause-low
set-requires-3-clause-low c =
    omega (arith, c.requires.low Lines, ap (λ v. sum (set v.lines c.args.i c.args.weight.lines)) c.self.view_is)
