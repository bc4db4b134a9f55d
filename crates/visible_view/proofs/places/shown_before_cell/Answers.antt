use Rattle.std.proofs.Common.{length, ap, ◌∙◌, arith}
use Rattle.std.proofs.lemmas.List.{length-map}
use Rattle.std.proofs.Common.{ℕ, List, [], get_or, take}
use Rattle.lane_rank.specs.Ones.{ones_of}
use Rattle.ttf_form.specs.Cells.{CellData}
use Rattle.tombstone_text.specs.Chunks.{flag_of}
use Rattle.visible_view.proofs.Search.{before_few, part_count, part_there, shown_before}
use Rattle.visible_view.proofs.places.shown_before_cell.Goals as goal

pub shown_start-requires : goal.shown_start-requires
shown_start-requires c = omega (arith, (part_there _ _ _ _ c.place_chunk-i.ensures).0)

pub chunk_flags-requires : goal.chunk_flags-requires
chunk_flags-requires c = (part_there _ _ _ _ c.place_chunk-i.ensures).0

pub prefix_ones-requires-clause-within : goal.prefix_ones-requires-clause-within
prefix_ones-requires-clause-within c = omega (
  arith,
  (part_there _ _ _ _ c.place_chunk-i.ensures).1,
  ap (λ (fs : List ℕ). length fs) c.chunk_flags.ensures.flags,
  length-map (get_or c.args.cells.now.chunks c.place_chunk-i.result.0 []) flag_of,
)

pub overflow_add-result : goal.overflow_add-result
overflow_add-result c =
    let cs = c.args.cells.now.chunks in
    let i = c.place_chunk-i.result.0 in
    let at = c.place_chunk-i.result.1 in
    record {
      fits = omega (
        arith,
        c.shown_start.ensures,
        c.prefix_ones.ensures ∙ ap (λ (fs : List ℕ). ones_of (take at fs)) c.chunk_flags.ensures.flags,
        part_count cs i at c.args.place c.place_chunk-i.ensures,
        ap (λ (s : List CellData). shown_before s c.args.place) c.known.ensures.chunks,
        before_few c.args.cells.now.cells c.args.place,
        c.ranges.place.fits,
      );
    }

pub returns : goal.returns
returns c =
    let cs = c.args.cells.now.chunks in
    let i = c.place_chunk-i.result.0 in
    let at = c.place_chunk-i.result.1 in
    omega (
      arith,
      c.shown_start.ensures,
      c.prefix_ones.ensures ∙ ap (λ (fs : List ℕ). ones_of (take at fs)) c.chunk_flags.ensures.flags,
      part_count cs i at c.args.place c.place_chunk-i.ensures,
      ap (λ (s : List CellData). shown_before s c.args.place) c.known.ensures.chunks,
    )
