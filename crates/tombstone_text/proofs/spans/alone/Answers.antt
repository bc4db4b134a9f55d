use Rattle.std.proofs.Common.{◌<◌, List, [], length, get_or, sym, ap, ◌∙◌, subst, arith}
use Rattle.ttf_form.specs.Cells.{CellData}
use Rattle.tombstone_text.specs.Chunks.{flat}
use Rattle.tombstone_text.specs.Code.Spans.{AreFilled, IsSpot, pieces}
use Rattle.tombstone_text.proofs.Chunked.{all_cut, filled_cut}
use Rattle.tombstone_text.proofs.Pieces.{pieces_long, piece_count, border_inside, spot_alone}
use Rattle.tombstone_text.proofs.spans.alone.Goals as goal

pub cut-requires-clause-less : goal.cut-requires-clause-less
cut-requires-clause-less c =
    let ss = c.border-i.new.spans.items in
    let all = ap (λ (s : List CellData). length s) c.border-i.ensures.cells in
    let inside = border_inside (pieces ss) c.border-i.result c.args.at c.border-i.ensures.border (omega (arith, all, c.requires.within)) in
    let lt : c.border-i.result < length ss = omega (arith, inside, pieces_long ss) in
    let count = piece_count ss c.border-i.result c.index.result.now lt c.index.ensures in
    omega (arith, count, c.count.ensures.count, c.if-count-gt1.true)

pub returns-then-count-gt1-clause-cells : goal.returns-then-count-gt1-clause-cells
returns-then-count-gt1-clause-cells c =
    ap (λ cs. flat cs) c.cut.ensures.cut ∙ all_cut (pieces c.border-i.new.spans.items) c.border-i.result 1 ∙ c.border-i.ensures.cells

pub returns-then-count-gt1-clause-filled : goal.returns-then-count-gt1-clause-filled
returns-then-count-gt1-clause-filled c =
    let ss = c.border-i.new.spans.items in
    let all = ap (λ (s : List CellData). length s) c.border-i.ensures.cells in
    let inside = border_inside (pieces ss) c.border-i.result c.args.at c.border-i.ensures.border (omega (arith, all, c.requires.within)) in
    let lt : c.border-i.result < length ss = omega (arith, inside, pieces_long ss) in
    let count = piece_count ss c.border-i.result c.index.result.now lt c.index.ensures in
    subst AreFilled (sym c.cut.ensures.cut)
    (filled_cut (pieces ss) c.border-i.result 1 c.border-i.ensures.filled (omega (arith, lt, pieces_long ss)) (omega arith)
    (omega (arith, count, c.count.ensures.count, c.if-count-gt1.true)))

pub returns-then-count-gt1-clause-spot : goal.returns-then-count-gt1-clause-spot
returns-then-count-gt1-clause-spot c =
    let ss = c.border-i.new.spans.items in
    let all = ap (λ (s : List CellData). length s) c.border-i.ensures.cells in
    let inside = border_inside (pieces ss) c.border-i.result c.args.at c.border-i.ensures.border (omega (arith, all, c.requires.within)) in
    let lt : c.border-i.result < length ss = omega (arith, inside, pieces_long ss) in
    let count = piece_count ss c.border-i.result c.index.result.now lt c.index.ensures in
    subst (λ cs. IsSpot cs c.border-i.result 0 c.args.at) (sym c.cut.ensures.cut)
    (spot_alone (pieces ss) c.border-i.result c.args.at inside (omega (arith, count, c.count.ensures.count, c.if-count-gt1.true))
    c.border-i.ensures.border).0

pub returns-then-count-gt1-clause-one : goal.returns-then-count-gt1-clause-one
returns-then-count-gt1-clause-one c =
    let ss = c.border-i.new.spans.items in
    let all = ap (λ (s : List CellData). length s) c.border-i.ensures.cells in
    let inside = border_inside (pieces ss) c.border-i.result c.args.at c.border-i.ensures.border (omega (arith, all, c.requires.within)) in
    let lt : c.border-i.result < length ss = omega (arith, inside, pieces_long ss) in
    let count = piece_count ss c.border-i.result c.index.result.now lt c.index.ensures in
    ap (λ cs. length (get_or cs c.border-i.result [])) c.cut.ensures.cut
    ∙ (spot_alone (pieces ss) c.border-i.result c.args.at inside (omega (arith, count, c.count.ensures.count, c.if-count-gt1.true))
    c.border-i.ensures.border).1
