use Rattle.std.proofs.Common.{◌+◌, ◌<◌, length, arith}
use Rattle.site_changes.proofs.Chunks.{chunks_few, chunk_more}
use Rattle.site_changes.proofs.telling.all_changes.Goals as goal

pub overflow_add-place : goal.overflow_add-place
overflow_add-place c =
    let cs = c.args.cells.now.chunks in
    let i = c.loop-i.i in
    let lt : i < length cs = omega (arith, c.chunk_count-i-end.ensures, c.loop-i-test.true) in
    record {
      fits = omega (
        arith,
        c.loop-i.invariant.1,
        c.chunk_shown-place.ensures,
        chunk_more cs i lt,
        chunks_few cs c.args.cells.now.cells (i + 1) c.known.ensures.chunks,
        c.known.ensures.most,
      );
    }
