use Rattle.std.proofs.Common.{◌≡◌, true, false, ap, sym, ◌∙◌}
use Rattle.op_name.specs.declared.member.Member.TheVariants.{Original}
use Rattle.context_vector.specs.Contexts.{has}
use Rattle.char_marks.specs.Marks.{MarkData}
use Rattle.char_marks.specs.Code.Cells.{cell_at}
use Rattle.char_marks.proofs.Spots.{first_there, last_there, unknown_uncovered, spot_covered}
use Rattle.char_marks.proofs.reading.covers.Goals as goal

pub returns-then-not-knows : goal.returns-then-not-knows
returns-then-not-knows c =
    let n = c.args.spot.now.id.name in
    let lacks : has c.args.kept.now.mark.context (Original n) ≡ false =
    ap (λ (m : MarkData). has m.context (Original n)) (sym c.mark.ensures) ∙ (sym c.knows.ensures ∙ c.if-not-knows.true) in
    sym (unknown_uncovered c.args.site.now.history c.args.kept.now.mark (cell_at c.args.spot.now.id) lacks)

pub place_of_cell-from-requires-clause-there : goal.place_of_cell-from-requires-clause-there
place_of_cell-from-requires-clause-there c =
    first_there c.args.site.now.history c.args.kept.now c.requires.fit (cell_at c.first.result) c.first.ensures

pub place_of_cell-to-requires-clause-there : goal.place_of_cell-to-requires-clause-there
place_of_cell-to-requires-clause-there c =
    last_there c.args.site.now.history c.args.kept.now c.requires.fit (cell_at c.last.result) c.last.ensures

pub returns : goal.returns
returns c =
    let n = c.args.spot.now.id.name in
    let knows : has c.args.kept.now.mark.context (Original n) ≡ true =
    ap (λ (m : MarkData). has m.context (Original n)) (sym c.mark.ensures) ∙ (sym c.knows.ensures ∙ c.if-not-knows.false) in
    c.is_between.ensures
    ∙ spot_covered c.each_cell_stands_once.ensures c.args.site.now.history c.known.ensures.history c.args.kept.now c.requires.fit
    c.args.cells.now.cells c.requires.replayed (cell_at c.args.spot.now.id) c.args.spot.now.at c.place_of_cell-from.result
    c.place_of_cell-to.result c.requires.there (cell_at c.first.result) (cell_at c.last.result) c.first.ensures c.last.ensures
    c.place_of_cell-from.ensures c.place_of_cell-to.ensures knows
