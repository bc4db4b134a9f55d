use Rattle.std.proofs.Common.{◌<◌, ◌≤◌, List, length, slice_get, Some, sym, ap, ◌∙◌, subst, arith}
use Rattle.std.proofs.lemmas.List.{take_all}
use Rattle.std.proofs.lemmas.Option.{slice_get_past}
use Rattle.ttf_form.specs.Cells.{CellData}
use Rattle.tombstone_text.specs.Chunks.{flat}
use Rattle.tombstone_text.specs.Code.Chunks.{blank}
use Rattle.tombstone_text.specs.Code.Spans.{IsPlace, IsSpot, cells_in, pieces, run_from}
use Rattle.tombstone_text.proofs.Chunked.{flat_get, some_at}
use Rattle.tombstone_text.proofs.Following.{length-run, run_get}
use Rattle.tombstone_text.proofs.Pieces.{pieces_long, piece_read, piece_count}
use Rattle.tombstone_text.proofs.chunk.Chunk.cell.Goals as goal

pub cell-requires : goal.cell-requires
cell-requires c =
    let ss = c.self.inside.spans.items in
    let i = c.find-i.result.0 in
    let place = subst (λ ts. IsPlace (pieces ts) i c.find-i.result.1 c.args.at) c.as_slice.ensures.value c.find-i.ensures in
    let lt : i < length ss = let t = c.if-i-len.true in omega arith in
    let count = piece_count ss i c.index.result.now lt c.index.ensures in
    omega (arith, count, place.within (omega (arith, lt, pieces_long ss)))

pub returns-then-i-len : goal.returns-then-i-len
returns-then-i-len c =
    let ss = c.self.inside.spans.items in
    let i = c.find-i.result.0 in
    let o = c.find-i.result.1 in
    let x = c.index.result.now in
    let place = subst (λ ts. IsPlace (pieces ts) i o c.args.at) c.as_slice.ensures.value c.find-i.ensures in
    let lt : i < length ss = let t = c.if-i-len.true in omega arith in
    let inside : i < length (pieces ss) = omega (arith, lt, pieces_long ss) in
    let within : o < x.count = omega (arith, piece_count ss i x lt c.index.ensures, place.within inside) in
    let spot : IsSpot (pieces ss) i o c.args.at =
    record { chunk = inside; within = place.within inside; place_is = place.place_is } in
    ap (λ d. Some d) (c.cell.ensures ∙ sym (run_get x.first x.count o blank within))
    ∙ sym (some_at (run_from x.first x.count) o blank (omega (arith, within, length-run x.first x.count)))
    ∙ ap (λ (s : List CellData). slice_get s o) (piece_read ss i x lt c.index.ensures)
    ∙ sym (flat_get (pieces ss) i o c.args.at spot)
    ∙ ap (λ s. slice_get s.cells c.args.at) c.self.view_is

pub returns-else-i-len : goal.returns-else-i-len
returns-else-i-len c =
    let ss = c.self.inside.spans.items in
    let i = c.find-i.result.0 in
    let place = subst (λ ts. IsPlace (pieces ts) i c.find-i.result.1 c.args.at) c.as_slice.ensures.value c.find-i.ensures in
    let done : length (pieces ss) ≤ i = let t = c.if-i-len.false in omega (arith, pieces_long ss) in
    let all = ap (λ (ds : List (List CellData)). length (flat ds)) (take_all i (pieces ss) done) in
    sym (slice_get_past (cells_in ss) c.args.at (omega (arith, all, place.place_is)))
    ∙ ap (λ s. slice_get s.cells c.args.at) c.self.view_is
