use Rattle.std.proofs.Common.{◌++◌, ◌+◌, ◌-◌, ◌<◌, length, sym, ap, ◌∙◌, arith}
use Rattle.std.specs.Prelude.{encode_utf8_all}
use Rattle.visible_view.proofs.CallerLemmas.{on_err}
use Rattle.site_ranges.specs.Ranges.{range_of}
use Rattle.site_ranges.specs.Code.Chunks.{shown_at}
use Rattle.site_ranges.proofs.Appending.{begun, more, ended, broken}
use Rattle.site_ranges.proofs.ChunkTexts.{rest_from, passed_chunk, range_written, chunks_ended}
use Rattle.site_ranges.proofs.chunks.push_from.Goals as goal

pub loop-i-init : goal.loop-i-init
loop-i-init c = begun c.args.out.now.items (rest_from c.args.cells.now c.args.first c.args.skipped c.args.count)

pub returns-in_err-push_chunk-clause-err : goal.returns-in_err-push_chunk-clause-err
returns-in_err-push_chunk-clause-err c =
    on_err c.from_residual.result
    (broken c.args.out.now.items (rest_from c.args.cells.now c.args.first c.args.skipped c.args.count) c.loop-i.out.items _
    c.push_chunk.new.out.items c.loop-i.invariant c.in_err-push_chunk.ensures.err)

pub loop-i-preserved : goal.loop-i-preserved
loop-i-preserved c =
    let t = c.args.cells.now in
    let lt : c.loop-i.i < length t.chunks = let n = c.chunk_count-i-end.ensures in let l = c.loop-i-test.true in omega arith in
    let left = c.saturating_sub-left.ensures ∙ ap (λ n. c.loop-i.left - n) c.saturating_sub.ensures in
    more c.args.out.now.items (rest_from t c.args.first c.args.skipped c.args.count) c.loop-i.out.items
    (rest_from t c.loop-i.i c.loop-i.before c.loop-i.left) c.push_chunk.new.out.items
    (encode_utf8_all (range_of c.loop-i.before c.loop-i.left (shown_at t c.loop-i.i))) _ c.loop-i.invariant
    (passed_chunk t c.loop-i.i c.known.ensures.beside lt c.loop-i.before c.loop-i.left c.chunk_shown-shown.result
    c.chunk_shown-shown.ensures ∙ (λ j. encode_utf8_all (range_of c.loop-i.before c.loop-i.left (shown_at t c.loop-i.i))
    ++ rest_from t (c.loop-i.i + 1) (sym c.saturating_sub-before.ensures j) (sym left j)))
    c.in_ok-push_chunk.ensures.ok

pub returns-then-left-eq0-clause-ok : goal.returns-then-left-eq0-clause-ok
returns-then-left-eq0-clause-ok c =
    let t = c.args.cells.now in
    ended c.args.out.now.items (rest_from t c.args.first c.args.skipped c.args.count) c.loop-i.out.items _ c.loop-i.invariant
    (range_written t c.loop-i.i c.loop-i.before c.loop-i.left c.if-left-eq0.true)

pub returns-clause-ok : goal.returns-clause-ok
returns-clause-ok c =
    let t = c.args.cells.now in
    ended c.args.out.now.items (rest_from t c.args.first c.args.skipped c.args.count) c.loop-i.out.items _ c.loop-i.invariant
    (chunks_ended t c.loop-i.i c.loop-i.before c.loop-i.left
    (let n = c.chunk_count-i-end.ensures in let l = c.loop-i-test.false in omega arith))
