use Rattle.std.proofs.Common.{List, slice_get, ap, sym, ◌∙◌, arith}
use Rattle.std.proofs.lemmas.Option.{slice_get_past}
use Rattle.ttf_form.specs.Cells.{CellData}
use Rattle.touched_cells.proofs.Spots.{part_get}
use Rattle.touched_cells.proofs.looking.cell_at.Goals as goal

pub returns-then-place-len : goal.returns-then-place-len
returns-then-place-len c =
    let at = c.place_chunk-chunk.result in
    c.chunk_cell.ensures
    ∙ sym (part_get c.args.cells.now.chunks at.0 at.1 c.args.place c.place_chunk-chunk.ensures)
    ∙ ap (λ (l : List CellData). slice_get l c.args.place) c.known.ensures.chunks

pub returns-else-place-len : goal.returns-else-place-len
returns-else-place-len c =
    sym (slice_get_past c.args.cells.now.cells c.args.place (omega (arith, c.if-place-len.false, c.len.ensures)))
