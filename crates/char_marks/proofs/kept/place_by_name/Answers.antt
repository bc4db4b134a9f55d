use Rattle.std.proofs.Common.{◌+◌, ◌-◌, ◌/◌, ◌<◌, ◌≤◌, length, sym, ◌∙◌, arith}
use Rattle.char_marks.proofs.Finding.{lower_half, upper_half, goes_to}
use Rattle.char_marks.proofs.kept.place_by_name.Goals as goal

pub loop-low-preserved-then-is_before : goal.loop-low-preserved-then-is_before
loop-low-preserved-then-is_before c =
    let ks = c.args.kept.now in
    let low = c.loop-low.low in
    let high = c.loop-low.high in
    let middle = low + (high - low) / 2 in
    let test : low < high = omega (arith, c.loop-low-test.true) in
    let bound : high ≤ length ks = omega (arith, c.loop-low.invariant.1) in
    let within : middle < length ks = omega (arith, test, bound) in (
      omega (arith, test),
      bound,
      lower_half ks c.args.name.now low middle c.name_at.result c.requires within c.name_at.ensures
          (sym c.is_before.ensures ∙ c.if-is_before.true),
      c.loop-low.invariant.3,
    )

pub loop-low-preserved : goal.loop-low-preserved
loop-low-preserved c =
    let ks = c.args.kept.now in
    let low = c.loop-low.low in
    let high = c.loop-low.high in
    let middle = low + (high - low) / 2 in
    let test : low < high = omega (arith, c.loop-low-test.true) in
    let bound : high ≤ length ks = omega (arith, c.loop-low.invariant.1) in
    let within : middle < length ks = omega (arith, test, bound) in
    let order : low ≤ middle = omega arith in
    let inside : middle ≤ length ks = omega (arith, within) in (
      order,
      inside,
      c.loop-low.invariant.2,
      upper_half ks c.args.name.now middle c.name_at.result c.requires within c.name_at.ensures
          (sym c.is_before.ensures ∙ c.if-is_before.false),
    )

pub returns : goal.returns
returns c =
    let i = c.loop-low in
    let over : i.high ≤ i.low = omega (arith, c.loop-low-test.false) in
    let bound : i.low ≤ length c.args.kept.now = omega (arith, i.invariant.0, i.invariant.1) in
    goes_to c.args.kept.now c.args.name.now i.low bound i.invariant.2
    (λ j d le within. i.invariant.3 j d (omega (arith, le, i.invariant.0, over)) within)
