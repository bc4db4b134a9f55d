use Rattle.std.proofs.Common.{◌≡◌, ◌++◌, ◌<◌, ℕ, List, [], take, length, get_or, vec_len, ap, ◌∙◌, sym, append_assoc, arith}
use Rattle.tombstone_text.specs.Chunks.{flat, joined}
use Rattle.visible_view.proofs.CallerLemmas.{front_stays, on_err}
use Rattle.past_view.specs.Code.PastCells.{past_text}
use Rattle.tombstone_text.proofs.CallerLemmas.{beside_at}
use Rattle.past_view.proofs.PastText.{past_chunk_more}
use Rattle.past_view.proofs.past.push_past.Goals as goal

pub returns-in_err-push_chunk-clause-err : goal.returns-in_err-push_chunk-clause-err
returns-in_err-push_chunk-clause-err c =
    let more =
    past_text c.args.at.now.set (flat (take c.loop-i.i c.args.cells.now.chunks)) (joined (take c.loop-i.i c.args.cells.now.texts)) in
    let long : length c.args.out.now.items ≡ vec_len c.args.out.now = omega (arith, c.args.out.now.ok.0) in
    on_err c.from_residual.result
    (front_stays c.args.out.now.items more c.loop-i.out.items c.push_chunk.new.out.items (vec_len c.args.out.now) (vec_len c.loop-i.out)
    c.loop-i.invariant long c.in_err-push_chunk.ensures.err)

pub push_chunk-requires-clause-beside : goal.push_chunk-requires-clause-beside
push_chunk-requires-clause-beside c =
    let cs = c.args.cells.now.chunks in
    let lt : c.loop-i.i < length cs = let n = c.chunk_count-i-end.ensures in let t = c.loop-i-test.true in omega arith in
    beside_at c.args.cells.now.texts cs c.loop-i.i c.known.ensures.beside lt

pub loop-i-preserved : goal.loop-i-preserved
loop-i-preserved c =
    let v = c.args.at.now.set in
    let cs = c.args.cells.now.chunks in
    let ts = c.args.cells.now.texts in
    let i = c.loop-i.i in
    let front = c.args.out.now.items in
    let lt : i < length cs = let n = c.chunk_count-i-end.ensures in let t = c.loop-i-test.true in omega arith in
    c.in_ok-push_chunk.ensures.ok
    ∙ ap (λ (bs : List ℕ). bs ++ past_text v (get_or cs i []) (get_or ts i [])) c.loop-i.invariant
    ∙ append_assoc front (past_text v (flat (take i cs)) (joined (take i ts))) (past_text v (get_or cs i []) (get_or ts i []))
    ∙ ap (λ (bs : List ℕ). front ++ bs) (sym (past_chunk_more v cs ts i c.known.ensures.beside lt))
