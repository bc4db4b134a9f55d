use Rattle.std.proofs.Common.{◌≡◌, ℕ, ◌+◌, ◌-◌, List, [], length, get_or, ap, ◌∙◌, arith}
use Rattle.std.proofs.lemmas.List.{length-map}
use Rattle.ttf_form.specs.Cells.{CellData}
use Rattle.tombstone_text.specs.Chunks.{flag_of}
use Rattle.touched_cells.proofs.Spots.{last_long, last_part, some_chunk}
use Rattle.touched_cells.proofs.looking.place_chunk.Goals as goal

pub returns-then-start-place : goal.returns-then-start-place
returns-then-start-place c =
    let cs = c.args.cells.now.chunks in
    let k = c.chunk_count-last.result - 1 in
    let all = ap (λ (l : List CellData). length l) c.known.ensures.chunks in
    let some = some_chunk cs c.args.place (omega (arith, c.requires, all)) in
    let last : k + 1 ≡ length cs = omega (arith, c.chunk_count-last.ensures, some) in
    let own : length c.chunk_flags.result.now ≡ length (get_or cs k []) =
    ap (λ (l : List ℕ). length l) c.chunk_flags.ensures.flags ∙ length-map (get_or cs k []) flag_of in
    let long = last_long cs k last in
    last_part cs k (c.args.place - (c.len.result - length c.chunk_flags.result.now)) c.args.place last
    (omega (arith, long, own, all, c.len.ensures, c.if-start-place.true)) (omega (arith, c.requires, all))
