use Rattle.std.proofs.Common.{arith}
use Rattle.tombstone_text.specs.Code.Weights.{weighed}
use Rattle.tombstone_text.specs.declared.measure.Measure.TheVariants.{Bytes, Units, Lines}
use Rattle.tombstone_text.proofs.Measuring.{counted_one}
use Rattle.tombstone_text.proofs.measure.turned.Goals as goal

pub minus-requires-clause-bytes : goal.minus-requires-clause-bytes
minus-requires-clause-bytes c =
    omega (arith, c.requires.least Bytes, counted_one c.args.before (weighed c.args.one Bytes) c.if-before-eq1.true)

pub minus-requires-clause-units : goal.minus-requires-clause-units
minus-requires-clause-units c =
    omega (arith, c.requires.least Units, counted_one c.args.before (weighed c.args.one Units) c.if-before-eq1.true)

pub minus-requires-clause-lines : goal.minus-requires-clause-lines
minus-requires-clause-lines c =
    omega (arith, c.requires.least Lines, counted_one c.args.before (weighed c.args.one Lines) c.if-before-eq1.true)

pub plus-requires-clause-bytes : goal.plus-requires-clause-bytes
plus-requires-clause-bytes c = c.requires.most Bytes

pub plus-requires-clause-units : goal.plus-requires-clause-units
plus-requires-clause-units c = c.requires.most Units

pub plus-requires-clause-lines : goal.plus-requires-clause-lines
plus-requires-clause-lines c = c.requires.most Lines
