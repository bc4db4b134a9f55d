use Rattle.std.proofs.Common.{◌<◌, ◌≤◌, List, length, sym, subst, ◌∙◌, arith}
use Rattle.std.specs.Prelude.{fold}
use Rattle.std.proofs.lemmas.List.{at_drop_all}
use Rattle.char_marks.specs.Marks.{KeptData}
use Rattle.char_marks.specs.Covered.{IsFit}
use Rattle.char_marks.specs.Code.Cells.{cell_at}
use Rattle.char_marks.specs.Code.Tops.{top_with}
use Rattle.char_marks.proofs.Finding.{in_at}
use Rattle.char_marks.proofs.Tops.{value_told}
use Rattle.char_marks.proofs.reading.last_value.Goals as goal

pub next_top-top-requires-clause-fit : goal.next_top-top-requires-clause-fit
next_top-top-requires-clause-fit c =
    let ks = c.args.marks.now in
    let i = c.loop-kept.kept-index in
    let d = c.kept-item.result in
    let lt : i < length ks = omega (arith, c.loop-kept-test.true) in
    subst (λ (k : KeptData). IsFit c.args.site.now.history k) (sym c.kept-item.is) (c.requires.fit _ (in_at ks i d lt))

pub returns : goal.returns
returns c =
    let h = c.args.site.now.history in
    let raised = c.args.raised.now.set.entries in
    let cell = cell_at c.args.spot.now.id in
    let ks = c.args.marks.now in
    let kind = c.args.kind.now in
    let i = c.loop-kept.kept-index in
    let past : length ks ≤ i = omega (arith, c.loop-kept-test.false) in
    c.value_in.ensures
    ∙ value_told kind h raised cell ks c.loop-kept.top
    (sym (at_drop_all (λ (l : List KeptData). fold (top_with kind h raised cell) c.loop-kept.top l) ks i past) ∙ c.loop-kept.invariant)
