use Rattle.std.proofs.Common.{◌+◌, ◌<◌, refl, sym, ap, ◌∙◌, arith}
use Rattle.tombstone_text.specs.Code.Cells.{is_sought}
use Rattle.tombstone_text.specs.Code.Chunks.{blank}
use Rattle.tombstone_text.specs.Code.Spans.{span_cells}
use Rattle.tombstone_text.proofs.Following.{length-run, run_get}
use Rattle.tombstone_text.proofs.Searches.{found_at, none_next, none_at_all}
use Rattle.tombstone_text.proofs.span.Span.position.Goals as goal

pub returns-then-is : goal.returns-then-is
returns-then-is c =
    let s = c.args.self.now in
    let p = is_sought c.args.sought.now in
    let k = c.loop-k.k in
    let lt : k < s.count = omega (arith, c.loop-k-test.true, c.count-k-end.ensures.count) in
    sym (found_at p (span_cells s) k c.loop-k.invariant (omega (arith, lt, length-run s.first s.count))
    (ap p (run_get s.first s.count k blank lt ∙ sym c.cell.ensures) ∙ sym c.is.ensures ∙ c.if-is.true))

pub loop-k-preserved : goal.loop-k-preserved
loop-k-preserved c =
    let s = c.args.self.now in
    let p = is_sought c.args.sought.now in
    let k = c.loop-k.k in
    let lt : k < s.count = omega (arith, c.loop-k-test.true, c.count-k-end.ensures.count) in
    none_next p (span_cells s) k (k + 1) refl c.loop-k.invariant
    (λ d. ap p (run_get s.first s.count k d lt ∙ sym c.cell.ensures) ∙ sym c.is.ensures ∙ c.if-is.false)

pub returns : goal.returns
returns c =
    let s = c.args.self.now in
    let done = c.loop-k-test.false in
    let most = c.loop-k.auto.k-end in
    let count = c.count-k-end.ensures.count in
    sym (none_at_all (is_sought c.args.sought.now) (span_cells s) c.loop-k.k (omega (arith, done, most, count, length-run s.first s.count))
    c.loop-k.invariant)
