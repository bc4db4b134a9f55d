use Rattle.std.proofs.Common.{◌≡◌, ◌<◌, ◌≤◌, ◌+◌, ◌-◌, ◌++◌, ℕ, List, length, map, take, drop, get_or, set, refl, sym, ap, ◌∙◌, arith}
use Rattle.std.proofs.lemmas.List.{length-map, length-set}
use Rattle.ttf_form.specs.Cells.{CellData, change_at}
use Rattle.tombstone_text.specs.Chunks.{flag_of, flat}
use Rattle.tombstone_text.specs.Code.Spans.{SpanData, cells_in, pieces, raised_run, run_from, span_cells}
use Rattle.tombstone_text.proofs.Following.{raised_cells, length-run}
use Rattle.tombstone_text.proofs.Pieces.{pieces_long, pieces_set, piece_there, piece_read, piece_count, flags_part, flags_put, length-set_more}
use Rattle.tombstone_text.proofs.Raising.{first_none, first_more, first_all}
use Rattle.tombstone_text.proofs.Searches.{length-more, taken-le}
use Rattle.tombstone_text.proofs.Shown.{set_change}
use Rattle.tombstone_text.proofs.spans.raise.Goals as goal

pub loop-i-init : goal.loop-i-init
loop-i-init c =
    (first_none (map (raised_run c.args.generation c.args.name.now)) (pieces c.args.spans.now.items), refl, c.requires, refl)

-- the cells of a span have their flags in the column
within : (ss : List SpanData) (i at k : ℕ) (x : SpanData) (flags : List ℕ) → i < length ss → x ≡ get_or ss i x
    → flags ≡ map flag_of (cells_in ss) → at ≡ length (flat (take i (pieces ss))) → k ≡ x.count → at + k ≤ length flags
within ss i at k x flags lt read is start count =
    let long = ap (λ (fs : List ℕ). length fs) is in
    omega (
      arith,
      long,
      start,
      count,
      length-map (cells_in ss) flag_of,
      length-more (pieces ss) i (omega (arith, lt, pieces_long ss)),
      taken-le (pieces ss) (i + 1),
      piece_count ss i x lt read,
    )

pub overflow_add-behind : goal.overflow_add-behind
overflow_add-behind c =
    let ss = c.loop-i.spans.items in
    let lt : c.loop-i.i < length ss = omega arith in
    record {
      fits = omega (
        arith,
        within ss c.loop-i.i c.loop-i.at c.count.result c.index_mut-span.result.now c.loop-i.flags lt
            c.index_mut-span.ensures.value c.loop-i.invariant.2 c.loop-i.invariant.3 c.count.ensures.count,
      );
    }

pub slice_bounds-raise-end : goal.slice_bounds-raise-end
slice_bounds-raise-end c =
    let ss = c.loop-i.spans.items in
    let lt : c.loop-i.i < length ss = omega arith in
    within ss c.loop-i.i c.loop-i.at c.count.result c.index_mut-span.result.now c.loop-i.flags lt
    c.index_mut-span.ensures.value c.loop-i.invariant.2 c.loop-i.invariant.3 c.count.ensures.count

pub raise-requires : goal.raise-requires
raise-requires c =
    let ss = c.loop-i.spans.items in
    let i = c.loop-i.i in
    let at = c.loop-i.at in
    let x = c.index_mut-span.result.now in
    let lt : i < length ss = omega arith in
    let k = at + c.count.result - at in
    let long : k ≡ length (span_cells x) = omega (arith, length-run x.first x.count, c.count.ensures.count) in
    ap (λ (fs : List ℕ). take k (drop at fs)) c.loop-i.invariant.2
    ∙ flags_part (pieces ss) i at k (span_cells x) (omega (arith, lt, pieces_long ss)) c.loop-i.invariant.3
    (piece_read ss i x lt c.index_mut-span.ensures.value) long

pub loop-i-preserved : goal.loop-i-preserved
loop-i-preserved c =
    let ss = c.loop-i.spans.items in
    let i = c.loop-i.i in
    let at = c.loop-i.at in
    let f = raised_run c.args.generation c.args.name.now in
    let x = c.index_mut-span.result.now in
    let y = c.raise.new.self in
    let lt : i < length ss = omega arith in
    let inside : i < length (pieces ss) = omega (arith, lt, pieces_long ss) in
    let k = at + c.count.result - at in
    let long : k ≡ length (span_cells x) = omega (arith, length-run x.first x.count, c.count.ensures.count) in
    let set_is = pieces_set ss i y in (
      set_is
          ∙ ap (λ n. set (pieces ss) i (run_from y.first n)) c.raise.ensures.count
          ∙ ap (λ d. set (pieces ss) i (run_from d x.count)) c.raise.ensures.first
          ∙ ap (λ d. set (pieces ss) i d) (raised_cells c.args.generation c.args.name.now x.first x.count)
          ∙ set_change (map f) (pieces ss) i (span_cells x) inside (piece_there ss i x lt c.index_mut-span.ensures.value)
          ∙ ap (λ (cs : List (List CellData)). change_at i (map f) cs) c.loop-i.invariant.0
          ∙ first_more (map f) i (i + 1) (pieces c.args.spans.now.items) (omega arith),
      length-set ss i y ∙ c.loop-i.invariant.1,
      ap (λ (fs : List ℕ). take at fs ++ (c.raise.new.flags ++ drop k (drop at fs))) c.loop-i.invariant.2
          ∙ ap (λ (fs : List ℕ). take at (map flag_of (cells_in ss)) ++ (fs ++ drop k (drop at (map flag_of (cells_in ss)))))
          c.raise.ensures.flags
          ∙ flags_put (pieces ss) i at k (span_cells x) (span_cells y) inside c.loop-i.invariant.3
          (piece_read ss i x lt c.index_mut-span.ensures.value) long
          ∙ ap (λ (cs : List (List CellData)). map flag_of (flat cs)) (sym set_is),
      omega (
        arith,
        ap (λ (cs : List (List CellData)). length (flat (take (i + 1) cs))) set_is,
        length-set_more (pieces ss) i (span_cells y) inside,
        length-run y.first y.count,
        c.raise.ensures.count,
        c.count.ensures.count,
        c.loop-i.invariant.3,
      ),
    )

pub returns-clause-pieces : goal.returns-clause-pieces
returns-clause-pieces c =
    let ss = c.args.spans.now.items in
    let done : length (pieces ss) ≤ c.loop-i.i = let t = c.loop-i-test.false in omega (arith, t, pieces_long ss) in
    c.loop-i.invariant.0 ∙ first_all (map (raised_run c.args.generation c.args.name.now)) c.loop-i.i (pieces ss) done
