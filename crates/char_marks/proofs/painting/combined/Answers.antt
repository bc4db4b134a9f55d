use Rattle.std.proofs.Common.{◌<◌, None, length, arith}
use Rattle.std.proofs.lemmas.List.{get_or_read}
use Rattle.char_marks.proofs.Told.{told_more}
use Rattle.char_marks.proofs.painting.combined.Goals as goal

pub loop-i-preserved : goal.loop-i-preserved
loop-i-preserved c =
    let ws = c.args.weights.now in
    let ss = c.args.slopes.now in
    let hs = c.args.hues.now in
    let i = c.loop-i.i in
    let lt : i < length ws = omega (arith, c.loop-i-test.true) in
    let lt-slopes : i < length ss = omega (arith, lt, c.requires.slopes) in
    let lt-hues : i < length hs = omega (arith, lt, c.requires.hues) in
    told_more ws ss hs i c.loop-i.values.items c.push.new.self.items c.index-weights-i.result c.index-slopes-i.result c.index-hues-i.result
    c.values_told-told.result c.loop-i.invariant (get_or_read ws i c.index-weights-i.result lt c.index-weights-i.is None)
    (get_or_read ss i c.index-slopes-i.result lt-slopes c.index-slopes-i.is None)
    (get_or_read hs i c.index-hues-i.result lt-hues c.index-hues-i.is None) c.values_told-told.ensures c.in_ok-push.ensures.items
