use Rattle.std.proofs.Common.{◌<◌, length, take, get_or, ap, ◌∙◌, arith}
use Rattle.std.proofs.lemmas.List.{length-take}
use Rattle.tombstone_text.specs.Measures.{weight}
use Rattle.tombstone_text.specs.Code.Weights.{counted}
use Rattle.tombstone_text.specs.declared.measure.Measure.TheVariants.{Bytes, Units, Lines}
use Rattle.tombstone_text.proofs.Measuring.{counted-le, flagged-le, flagged_more, weight-le}
use Rattle.tombstone_text.proofs.measure.weigh_shown.Goals as goal

pub plus-total-requires-clause-bytes : goal.plus-total-requires-clause-bytes
plus-total-requires-clause-bytes c =
    omega (
      arith,
      c.requires.most,
      c.loop-k.invariant Bytes,
      flagged-le Bytes (take c.loop-k.k c.args.flags.now) (take c.loop-k.k c.args.text.now),
      length-take c.loop-k.k c.args.text.now,
      c.weigh_one.ensures Bytes,
      counted-le c.flag_in.result (weight Bytes c.index-text-k.result),
      weight-le Bytes c.index-text-k.result,
    )

pub plus-total-requires-clause-units : goal.plus-total-requires-clause-units
plus-total-requires-clause-units c =
    omega (
      arith,
      c.requires.most,
      c.loop-k.invariant Units,
      flagged-le Units (take c.loop-k.k c.args.flags.now) (take c.loop-k.k c.args.text.now),
      length-take c.loop-k.k c.args.text.now,
      c.weigh_one.ensures Units,
      counted-le c.flag_in.result (weight Units c.index-text-k.result),
      weight-le Units c.index-text-k.result,
    )

pub plus-total-requires-clause-lines : goal.plus-total-requires-clause-lines
plus-total-requires-clause-lines c =
    omega (
      arith,
      c.requires.most,
      c.loop-k.invariant Lines,
      flagged-le Lines (take c.loop-k.k c.args.flags.now) (take c.loop-k.k c.args.text.now),
      length-take c.loop-k.k c.args.text.now,
      c.weigh_one.ensures Lines,
      counted-le c.flag_in.result (weight Lines c.index-text-k.result),
      weight-le Lines c.index-text-k.result,
    )

pub loop-k-preserved : goal.loop-k-preserved
loop-k-preserved c m =
    let fs = c.args.flags.now in
    let ts = c.args.text.now in
    let k = c.loop-k.k in
    let d = c.index-text-k.result in
    let lt : k < length ts = c.loop-k-test.true in
    omega (
      arith,
      c.plus-total.ensures m,
      c.weigh_one.ensures m,
      c.loop-k.invariant m,
      ap (λ n. counted n (weight m d)) c.flag_in.ensures ∙ ap (λ n. counted (get_or fs k 0) (weight m n)) c.index-text-k.is,
      flagged_more m fs ts k 0 d (omega (arith, lt, c.requires.beside)) lt,
    )

pub flag_in-requires : goal.flag_in-requires
flag_in-requires c = omega (arith, c.loop-k-test.true, c.requires.beside)
