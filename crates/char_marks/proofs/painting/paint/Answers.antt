use Rattle.std.proofs.Common.{◌≡◌, ◌<◌, ◌≤◌, List, Some, None, get_or, length, slice_get, inl, inr, ap, sym, ◌∙◌, arith}
use Rattle.std.proofs.lemmas.Bool.{cases_lt}
use Rattle.context_diff.specs.Replays.{Cell, replay_of}
use Rattle.ttf_form.specs.Cells.{cells_of}
use Rattle.char_marks.specs.Code.Cells.{cell_at}
use Rattle.char_marks.specs.Code.Painting.{Knows}
use Rattle.char_marks.proofs.Spots.{first_there, last_there}
use Rattle.char_marks.proofs.Painted.{known_between, none_outside, uncovered_same, one_more, within_list, cell_there, key_count}
use Rattle.char_marks.proofs.painting.paint.Goals as goal

pub place_of_cell-from-requires-clause-there : goal.place_of_cell-from-requires-clause-there
place_of_cell-from-requires-clause-there c =
    first_there c.args.site.now.history c.args.kept.now c.requires.fit (cell_at c.first.result) c.first.ensures

pub place_of_cell-to-requires-clause-there : goal.place_of_cell-to-requires-clause-there
place_of_cell-to-requires-clause-there c =
    last_there c.args.site.now.history c.args.kept.now c.requires.fit (cell_at c.last.result) c.last.ensures

pub loop-i-preserved : goal.loop-i-preserved
loop-i-preserved c =
    let h = c.args.site.now.history in
    let cs = c.args.cells.now.cells in
    let k = c.args.kept.now in
    let from = c.place_of_cell-from.result in
    let to = c.place_of_cell-to.result in
    let i = c.loop-i.i in
    let order = c.loop-i.auto.i in
    let low : from ≤ i = omega (arith, order) in
    let high : i ≤ to = omega (arith, c.loop-i-test.true) in
    let end = within_list (cells_of cs) to (cell_at c.last.result) c.place_of_cell-to.ensures in
    let count = key_count cs in
    let there : i < length (cells_of cs) = omega (arith, high, end) in
    let within : i < length c.args.tops.now = omega (arith, there, count, c.requires.long) in
    let r = cell_there (cells_of cs) i there in
    let at : slice_get (replay_of h) i ≡ Some r.0 = ap (λ (l : List Cell). slice_get l i) (sym c.requires.replayed.cells) ∙ r.1 in
    let knows : Knows h k r.0 =
    known_between c.each_cell_stands_once.ensures h c.known.ensures.history k c.requires.fit cs c.requires.replayed
    (cell_at c.first.result) (cell_at c.last.result) c.first.ensures c.last.ensures from to c.place_of_cell-from.ensures
    c.place_of_cell-to.ensures r.0 i at low high in
    one_more c.args.kind.now h c.args.raised.now.set.entries k c.args.tops.now c.loop-i.tops c.paint_cell.new.tops from i r.0
    c.loop-i.invariant low within at (c.paint_cell.ensures h r.0 r.1 knows)

pub returns : goal.returns
returns c =
    let h = c.args.site.now.history in
    let cs = c.args.cells.now.cells in
    let k = c.args.kept.now in
    let kind = c.args.kind.now in
    let raised = c.args.raised.now.set.entries in
    let old = c.args.tops.now in
    let from = c.place_of_cell-from.result in
    let to = c.place_of_cell-to.result in
    let out = none_outside c.each_cell_stands_once.ensures h c.known.ensures.history k c.requires.fit cs c.requires.replayed
    (cell_at c.first.result) (cell_at c.last.result) c.first.ensures c.last.ensures from to c.place_of_cell-from.ensures
    c.place_of_cell-to.ensures in
    record {
      long = c.loop-i.invariant.long;
      each = λ j d at. elim (cases_lt j from) [
        | inl before ↦ c.loop-i.invariant.rest j (inl before)
            ∙ uncovered_same kind h raised k d (get_or old j None) (out d j at (inl before))
        | inr after ↦ elim (cases_lt j c.loop-i.i) [
          | inl gone ↦ c.loop-i.invariant.done j d at after gone
          | inr past ↦
              let beyond : to < j = omega (arith, past, c.loop-i-test.false) in
              c.loop-i.invariant.rest j (inr past)
              ∙ uncovered_same kind h raised k d (get_or old j None) (out d j at (inr beyond))
        ]
      ];
    }
