use Rattle.std.proofs.Common.{◌<◌, ◌≤◌, length, ap, arith}
use Rattle.std.proofs.lemmas.List.{at_drop_more, at_drop_all}
use Rattle.char_marks.specs.Marks.{KeptData}
use Rattle.char_marks.specs.Making.{greatest_number, number_at}
use Rattle.char_marks.proofs.making.greatest_number.Goals as goal

pub loop-one-preserved : goal.loop-one-preserved
loop-one-preserved c =
    let ks = c.args.kept.now in
    let s = c.args.site in
    let i = c.loop-one.one-index in
    let d = c.one-item.result in
    let lt : i < length ks = omega (arith, c.loop-one-test.true) in
    let more = at_drop_more (greatest_number s) ks i d lt in
    let number = ap (λ (k : KeptData). number_at s k.mark.name) c.one-item.is in
    omega (arith, more, number, c.number_of.ensures, c.greater-best.ensures, c.loop-one.invariant)

pub returns : goal.returns
returns c =
    let ks = c.args.kept.now in
    let i = c.loop-one.one-index in
    let past : length ks ≤ i = omega (arith, c.loop-one-test.false) in
    omega (arith, at_drop_all (greatest_number c.args.site) ks i past, c.loop-one.invariant)
