use Rattle.std.proofs.Common.{◌<◌, ◌+◌, true≢false, List, length, take, ◌∙◌, sym, subst, arith}
use Rattle.ttf_form.specs.Cells.{CellData}
use Rattle.tombstone_text.specs.Chunks.{flat}
use Rattle.tombstone_text.specs.Code.Inserts.{HasLast, LacksRun}
use Rattle.tombstone_text.specs.Code.Spans.{pieces, span_cells}
use Rattle.tombstone_text.proofs.Pieces.{flat_more, pieces_long, piece_read}
use Rattle.tombstone_text.proofs.Reach.{lacks_append, last_in}
use Rattle.tombstone_text.proofs.spans.found.Goals.{in-Nothing, in-Cells}
use Rattle.tombstone_text.proofs.spans.found.Goals as goal

pub returns-in-Last : goal.returns-in-Last
returns-in-Last c =
    let ss = c.args.spans.now in
    let i = c.loop-i.i in
    let n = c.args.name.now in
    let lt : i < length ss = let t = c.loop-i-test.true in omega (arith, t) in
    last_in n (pieces ss) i (omega (arith, lt, pieces_long ss))
    (subst (λ (cs : List CellData). HasLast n cs) (piece_read ss i c.index-spans-i.result lt c.index-spans-i.is) c.in-Last.ensures)

pub loop-i-preserved : goal.loop-i-preserved
loop-i-preserved c none =
    let ss = c.args.spans.now in
    let i = c.loop-i.i in
    let n = c.args.name.now in
    let x = c.index-spans-i.result in
    let lt : i < length ss = let t = c.loop-i-test.true in omega (arith, t) in
    elim c.match-found.branch [
      | in-Nothing w ↦
          subst (λ (cs : List CellData). LacksRun n cs)
          (sym (flat_more (pieces ss) i (i + 1) (span_cells x) (omega (arith, lt, pieces_long ss)) (omega arith)
          (piece_read ss i x lt c.index-spans-i.is)))
          (lacks_append n (flat (take i (pieces ss))) (span_cells x) (c.loop-i.invariant (sym w.any-is ∙ none)) w.in-Nothing.ensures)
      | in-Cells w ↦ absurd (true≢false (sym w.any-is ∙ none))
    ]
