use Rattle.std.proofs.Common.{List, slice_get, take, ap, sym, ◌∙◌}
use Rattle.ttf_form.specs.Cells.{CellData}
use Rattle.tombstone_text.specs.Chunks.{shown_in}
use Rattle.touched_cells.proofs.Spots.{part_get, part_shown}
use Rattle.touched_cells.proofs.looking.look.Goals as goal

pub returns-clause-cell : goal.returns-clause-cell
returns-clause-cell c =
    let at = c.place_chunk-chunk.result in
    ap (λ (l : List CellData). slice_get l c.args.place) (sym c.known.ensures.chunks)
    ∙ part_get c.args.cells.now.chunks at.0 at.1 c.args.place c.place_chunk-chunk.ensures
    ∙ sym c.in-Some.ensures

pub returns-clause-shown : goal.returns-clause-shown
returns-clause-shown c =
    let at = c.place_chunk-chunk.result in
    c.shown_before-shown.ensures
    ∙ part_shown c.args.cells.now.chunks at.0 at.1 c.args.place c.place_chunk-chunk.ensures
    ∙ ap (λ (l : List CellData). shown_in (take c.args.place l)) c.known.ensures.chunks
