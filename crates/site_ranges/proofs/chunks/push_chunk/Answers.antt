use Rattle.std.proofs.Common.{◌++◌, List, [], length, get_or, sym, ap, ◌∙◌, append-nil, arith}
use Rattle.std.proofs.lemmas.List.{length-map}
use Rattle.tombstone_text.specs.Chunks.{flag_of}
use Rattle.tombstone_text.proofs.CallerLemmas.{beside_at}
use Rattle.site_ranges.proofs.ChunkTexts.{chunk_past, chunk_written}
use Rattle.site_ranges.proofs.chunks.push_chunk.Goals as goal

pub returns-then-chunk_shown-skipped-clause-ok : goal.returns-then-chunk_shown-skipped-clause-ok
returns-then-chunk_shown-skipped-clause-ok c =
    sym (append-nil c.args.out.now.items)
    ∙ ap (λ (bs : List _). c.args.out.now.items ++ bs)
    (sym (chunk_past c.args.cells.now c.args.i c.known.ensures.beside c.requires c.args.skipped c.args.count c.chunk_shown.result
    c.chunk_shown.ensures c.if-chunk_shown-skipped.true))

pub push_flagged-requires : goal.push_flagged-requires
push_flagged-requires c =
    let cs = c.args.cells.now.chunks in
    let beside = beside_at c.args.cells.now.texts cs c.args.i c.known.ensures.beside c.requires in
    let text = ap length c.chunk_text.ensures in
    let flags = ap length c.chunk_flags.ensures.flags ∙ length-map (get_or cs c.args.i []) flag_of in
    omega (arith, beside, text, flags)

pub returns-clause-ok : goal.returns-clause-ok
returns-clause-ok c =
    chunk_written c.args.cells.now c.args.i c.args.skipped c.args.count c.chunk_flags.result.now c.chunk_text.result.now
    c.args.out.now.items
    c.push_flagged.new.out.items c.push_flagged.result c.chunk_flags.ensures.flags c.chunk_text.ensures c.push_flagged.ensures.ok
