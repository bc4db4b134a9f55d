use Rattle.std.proofs.Common.{◌<◌, length, take, ap, arith}
use Rattle.std.proofs.lemmas.List.{length-take}
use Rattle.tombstone_text.specs.Measures.{weight}
use Rattle.tombstone_text.specs.declared.measure.Measure.TheVariants.{Bytes, Units, Lines}
use Rattle.tombstone_text.proofs.Measuring.{weight-le, weight_of-le, weight_of_more}
use Rattle.tombstone_text.proofs.measure.weigh.Goals as goal

pub plus-total-requires-clause-bytes : goal.plus-total-requires-clause-bytes
plus-total-requires-clause-bytes c =
    omega (
      arith,
      c.requires,
      c.loop-k.invariant Bytes,
      weight_of-le Bytes (take c.loop-k.k c.args.text.now),
      length-take c.loop-k.k c.args.text.now,
      c.of.ensures Bytes,
      weight-le Bytes c.index-text-k.result,
    )

pub plus-total-requires-clause-units : goal.plus-total-requires-clause-units
plus-total-requires-clause-units c =
    omega (
      arith,
      c.requires,
      c.loop-k.invariant Units,
      weight_of-le Units (take c.loop-k.k c.args.text.now),
      length-take c.loop-k.k c.args.text.now,
      c.of.ensures Units,
      weight-le Units c.index-text-k.result,
    )

pub plus-total-requires-clause-lines : goal.plus-total-requires-clause-lines
plus-total-requires-clause-lines c =
    omega (
      arith,
      c.requires,
      c.loop-k.invariant Lines,
      weight_of-le Lines (take c.loop-k.k c.args.text.now),
      length-take c.loop-k.k c.args.text.now,
      c.of.ensures Lines,
      weight-le Lines c.index-text-k.result,
    )

pub loop-k-preserved : goal.loop-k-preserved
loop-k-preserved c m =
    let ts = c.args.text.now in
    let k = c.loop-k.k in
    let d = c.index-text-k.result in
    let lt : k < length ts = c.loop-k-test.true in
    omega (
      arith,
      c.plus-total.ensures m,
      c.of.ensures m,
      c.loop-k.invariant m,
      ap (weight m) c.index-text-k.is,
      weight_of_more m ts k d lt,
    )
