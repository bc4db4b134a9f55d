use Rattle.std.proofs.Common.{length, ap, arith}
use Rattle.form_rows.proofs.Thresholds.{up_to_most}
use Rattle.form_rows.proofs.passages.Passage.moved.Goals as goal

pub cells_of-requires : goal.cells_of-requires
cells_of-requires c =
    let count = c.count_up_to-count.ensures in
    let most = up_to_most c.args.place c.as_slice.result.now in
    let places = ap length c.as_slice.ensures.value in
    let sums = ap length c.as_slice-2.ensures.value in
    let same = c.self.invariant.same in
    omega (arith, count, most, places, sums, same)
