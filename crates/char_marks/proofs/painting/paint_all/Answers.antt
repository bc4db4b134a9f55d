use Rattle.std.proofs.Common.{◌<◌, ◌≤◌, List, length, ap, sym, subst, ◌∙◌, arith}
use Rattle.context_diff.specs.Replays.{Cell}
use Rattle.char_marks.specs.Marks.{KeptData}
use Rattle.char_marks.specs.Covered.{IsFit}
use Rattle.char_marks.proofs.Finding.{in_at}
use Rattle.char_marks.proofs.Painted.{none_painted, one_painted, all_painted, key_count}
use Rattle.char_marks.proofs.painting.paint_all.Goals as goal

pub loop-kept-init : goal.loop-kept-init
loop-kept-init c =
    let cs = c.args.cells.now.cells in
    none_painted c.args.kind.now c.args.site.now.history c.args.raised.now.set.entries (length cs) c.args.tops.now c.args.marks.now
    (sym (key_count cs) ∙ ap (λ (l : List Cell). length l) c.requires.replayed.cells) c.requires.none

pub paint-requires-clause-fit : goal.paint-requires-clause-fit
paint-requires-clause-fit c =
    let ks = c.args.marks.now in
    let i = c.loop-kept.kept-index in
    let lt : i < length ks = omega (arith, c.loop-kept-test.true) in
    subst (λ (k : KeptData). IsFit c.args.site.now.history k) (sym c.kept-item.is)
    (c.requires.fit _ (in_at ks i c.kept-item.result lt))

pub paint-requires-clause-long : goal.paint-requires-clause-long
paint-requires-clause-long c =
    let cs = c.args.cells.now.cells in
    c.loop-kept.invariant.long ∙ (sym (ap (λ (l : List Cell). length l) c.requires.replayed.cells) ∙ key_count cs)

pub loop-kept-preserved : goal.loop-kept-preserved
loop-kept-preserved c =
    let ks = c.args.marks.now in
    let i = c.loop-kept.kept-index in
    let lt : i < length ks = omega (arith, c.loop-kept-test.true) in
    one_painted c.args.kind.now c.args.site.now.history c.args.raised.now.set.entries ks i c.kept-item.result c.loop-kept.tops
    c.paint.new.tops lt c.kept-item.is c.loop-kept.invariant c.paint.ensures

pub returns : goal.returns
returns c =
    let ks = c.args.marks.now in
    let past : length ks ≤ c.loop-kept.kept-index = omega (arith, c.loop-kept-test.false) in
    all_painted c.args.kind.now c.args.site.now.history c.args.raised.now.set.entries ks c.loop-kept.kept-index c.loop-kept.tops past
    c.loop-kept.invariant
