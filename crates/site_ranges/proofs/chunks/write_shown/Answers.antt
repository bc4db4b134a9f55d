use Rattle.std.proofs.Common.{◌++◌, List, ap, ◌∙◌}
use Rattle.site_ranges.proofs.ChunkTexts.{from_first}
use Rattle.site_ranges.proofs.chunks.write_shown.Goals as goal

pub returns-in-Ok-clause-ok : goal.returns-in-Ok-clause-ok
returns-in-Ok-clause-ok c =
    let t = c.args.cells.now in
    c.in-Ok.ensures.ok
    ∙ ap (λ (bs : List _). c.args.out.now.items ++ bs)
    (from_first t c.shown_chunk-first.result.0 c.shown_chunk-first.result.1 c.args.place c.args.count c.known.ensures.beside
    c.known.ensures.chunks c.known.ensures.texts c.shown_chunk-first.ensures)
