use Rattle.std.proofs.Common.{◌≡◌, insert, sym, ap, ◌∙◌, subst, arith}
use Rattle.ttf_form.specs.Cells.{bare_cells, put_in}
use Rattle.tombstone_text.specs.Chunks.{flat}
use Rattle.tombstone_text.specs.Code.Spans.{AreFilled, pieces, cells_in, run_from}
use Rattle.tombstone_text.proofs.Following.{bare_first, bare_run, length-run}
use Rattle.tombstone_text.proofs.Pieces.{pieces_long, pieces_insert, flat_insert, filled_insert}
use Rattle.tombstone_text.proofs.spans.put.Goals as goal

pub returns-clause-cells : goal.returns-clause-cells
returns-clause-cells c =
    let a = c.args.ins.now in
    let ss = c.border-i.new.spans.items in
    let i = c.border-i.result in
    let x = c.bare.result in
    let kept : c.join.new.spans.items ≡ ss = c.join.ensures.kept c.if-join.false in
    let now : c.insert.new.self.items ≡ insert ss i x = c.in-Ok.ensures.items ∙ ap (λ s. insert s i x) kept in
    let new = ap (λ f. run_from f x.count) c.bare.ensures.first ∙ ap (run_from (bare_first a)) c.bare.ensures.count ∙ bare_run a in
    ap (λ s. cells_in s) now
    ∙ ap (λ cs. flat cs) (pieces_insert ss i x)
    ∙ ap (λ d. flat (insert (pieces ss) i d)) new
    ∙ flat_insert (pieces ss) i c.args.at (bare_cells a) (omega (arith, c.border-i.ensures.within, pieces_long ss))
    c.border-i.ensures.border
    ∙ ap (λ s. put_in c.args.at (bare_cells a) s) c.border-i.ensures.cells

pub returns-clause-filled : goal.returns-clause-filled
returns-clause-filled c =
    let a = c.args.ins.now in
    let ss = c.border-i.new.spans.items in
    let i = c.border-i.result in
    let x = c.bare.result in
    let kept : c.join.new.spans.items ≡ ss = c.join.ensures.kept c.if-join.false in
    let now : c.insert.new.self.items ≡ insert ss i x = c.in-Ok.ensures.items ∙ ap (λ s. insert s i x) kept in
    let some = a.some in
    subst AreFilled (sym (ap (λ s. pieces s) now ∙ pieces_insert ss i x))
    (filled_insert (pieces ss) i (run_from x.first x.count) c.border-i.ensures.filled
    (omega (arith, some, length-run x.first x.count, c.bare.ensures.count)))

pub returns-then-join-clause-cells : goal.returns-then-join-clause-cells
returns-then-join-clause-cells c =
    let new = bare_cells c.args.ins.now in
    c.join.ensures.joined c.if-join.true
    ∙ ap (λ k. put_in k new (cells_in c.border-i.new.spans.items)) c.border-i.ensures.border
    ∙ ap (λ s. put_in c.args.at new s) c.border-i.ensures.cells
