use Rattle.std.proofs.Common.{ℕ, List, take, ap, ap₂, ◌∙◌, arith}
use Rattle.tombstone_text.specs.Measures.{weight_of}
use Rattle.text_positions.specs.Code.{characters_in}
use Rattle.text_positions.proofs.Chunks.{chars, chars_few, columns_even, columns_tell, shown_part, taken_weight}
use Rattle.text_positions.proofs.Weights.{weight_of-le, weight_part}
use Rattle.text_positions.proofs.shown.offset_within.Goals as goal

pub weigh_first-requires-clause-beside : goal.weigh_first-requires-clause-beside
weigh_first-requires-clause-beside c =
    let t = c.args.cells.now in
    let part = shown_part t.chunks t.texts _ _ _ c.known.ensures.beside c.shown_chunk-i.ensures in
    columns_even t.chunks t.texts _ _ _ c.known.ensures.beside part.0 c.chunk_flags.ensures.flags c.chunk_text.ensures

pub returns : goal.returns
returns c =
    let t = c.args.cells.now in
    let m = c.args.measure in
    let i = c.shown_chunk-i.result.0 in
    let before = c.shown_chunk-i.result.1 in
    let part = shown_part t.chunks t.texts i before c.args.v c.known.ensures.beside c.shown_chunk-i.ensures in
    let tell =
    columns_tell t.chunks t.texts i c.chunk_flags.result.now c.chunk_text.result.now c.chunk_flags.ensures.flags c.chunk_text.ensures in
    omega (
      arith,
      c.weight_start-front.ensures,
      c.weigh_first.ensures ∙ ap (λ (l : List ℕ). weight_of m (take before l)) tell,
      taken_weight m t.chunks t.texts i before c.args.v c.known.ensures.beside part.0 (omega (arith, part.1)) part.2,
      ap (λ (l : List ℕ). weight_of m (take c.args.v l)) (ap₂ chars c.known.ensures.chunks c.known.ensures.texts),
    )

pub overflow_add-result : goal.overflow_add-result
overflow_add-result c =
    let t = c.args.cells.now in
    let m = c.args.measure in
    let i = c.shown_chunk-i.result.0 in
    let before = c.shown_chunk-i.result.1 in
    let part = shown_part t.chunks t.texts i before c.args.v c.known.ensures.beside c.shown_chunk-i.ensures in
    let tell =
    columns_tell t.chunks t.texts i c.chunk_flags.result.now c.chunk_text.result.now c.chunk_flags.ensures.flags c.chunk_text.ensures in
    record {
      fits = omega (
        arith,
        c.weight_start-front.ensures,
        c.weigh_first.ensures ∙ ap (λ (l : List ℕ). weight_of m (take before l)) tell,
        taken_weight m t.chunks t.texts i before c.args.v c.known.ensures.beside part.0 (omega (arith, part.1)) part.2,
        ap (λ (l : List ℕ). weight_of m (take c.args.v l)) (ap₂ chars c.known.ensures.chunks c.known.ensures.texts),
        weight_part m (characters_in t) c.args.v,
        weight_of-le m (characters_in t),
        chars_few t.cells t.text,
        c.known.ensures.most,
      );
    }
