use Rattle.std.proofs.Common.{◌≡◌, ◌+◌, ◌<◌, ◌≤◌, List, [], length, get_or, position, None, sym, ap, ◌∙◌, subst, arith}
use Rattle.std.proofs.lemmas.List.{take_all}
use Rattle.ttf_form.specs.Cells.{CellData}
use Rattle.tombstone_text.specs.Chunks.{flat}
use Rattle.tombstone_text.specs.Code.Cells.{is_sought}
use Rattle.tombstone_text.specs.Code.Spans.{pieces, cells_in, span_cells}
use Rattle.tombstone_text.proofs.Pieces.{pieces_long, piece_read, piece_count}
use Rattle.tombstone_text.proofs.Searches as searches
use Rattle.tombstone_text.proofs.spans.position_of.Goals as goal

pub overflow_add-result : goal.overflow_add-result
overflow_add-result c =
    let ss = c.args.spans.now in
    let i = c.loop-i.i in
    let lt : i < length ss = c.loop-i-test.true in
    let count = piece_count ss i c.index-spans-i.result lt c.index-spans-i.is in
    let found = searches.found_in (is_sought c.args.sought.now) (pieces ss) i c.in-Some.at (span_cells c.index-spans-i.result)
    (piece_read ss i c.index-spans-i.result lt c.index-spans-i.is) (sym c.position.ensures ∙ c.in-Some.is) in
    let most = searches.taken-le (pieces ss) i in
    let run = ap (λ (s : List CellData). length s) (piece_read ss i c.index-spans-i.result lt c.index-spans-i.is) in
    let more = searches.length-more (pieces ss) i (omega (arith, lt, pieces_long ss)) in
    let all = searches.taken-le (pieces ss) (i + 1) in
    record { fits = omega (arith, found.1, run, more, all, c.loop-i.invariant.1, c.requires) }

pub returns-in-Some : goal.returns-in-Some
returns-in-Some c =
    let ss = c.args.spans.now in
    let i = c.loop-i.i in
    let lt : i < length ss = c.loop-i-test.true in
    let inside : i < length (pieces ss) = omega (arith, lt, pieces_long ss) in
    let piece = piece_read ss i c.index-spans-i.result lt c.index-spans-i.is in
    let found = searches.found_in (is_sought c.args.sought.now) (pieces ss) i c.in-Some.at (span_cells c.index-spans-i.result)
    piece (sym c.position.ensures ∙ c.in-Some.is) in
    let run = ap (λ (s : List CellData). length s) piece in
    let more = searches.length-more (pieces ss) i inside in
    let all = searches.taken-le (pieces ss) (i + 1) in
    sym (searches.placed_in (is_sought c.args.sought.now) (pieces ss) i c.loop-i.start c.in-Some.at inside c.loop-i.invariant.1
    c.loop-i.invariant.2 found.0 (omega (arith, found.1, run)) (omega (arith, found.1, run, more, all, c.loop-i.invariant.1)))

pub overflow_add-start : goal.overflow_add-start
overflow_add-start c =
    let ss = c.args.spans.now in
    let i = c.loop-i.i in
    let lt : i < length ss = c.loop-i-test.true in
    let count = piece_count ss i c.index-spans-i.result lt c.index-spans-i.is in
    let more = searches.length-more (pieces ss) i (omega (arith, lt, pieces_long ss)) in
    let all = searches.taken-le (pieces ss) (i + 1) in
    record { fits = omega (arith, count, more, all, c.count-start.ensures.count, c.loop-i.invariant.1, c.requires) }

pub loop-i-preserved : goal.loop-i-preserved
loop-i-preserved c =
    let ss = c.args.spans.now in
    let i = c.loop-i.i in
    let p = is_sought c.args.sought.now in
    let lt : i < length ss = c.loop-i-test.true in
    let inside : i < length (pieces ss) = omega (arith, lt, pieces_long ss) in
    let count = piece_count ss i c.index-spans-i.result lt c.index-spans-i.is in
    let same : length (get_or (pieces ss) i []) ≡ c.count-start.result = omega (arith, count, c.count-start.ensures.count) in
    let none : position p (get_or (pieces ss) i []) ≡ None =
    ap (λ (s : List CellData). position p s) (sym (piece_read ss i c.index-spans-i.result lt c.index-spans-i.is))
    ∙ sym c.position.ensures ∙ c.in-None.is in
    let more = searches.length-more (pieces ss) i inside in (
      omega (arith, lt),
      omega (arith, more, same, c.loop-i.invariant.1),
      subst (λ k. searches.NoneBefore p (cells_in ss) (c.loop-i.start + k)) same
          (searches.none_more p (pieces ss) i c.loop-i.start inside c.loop-i.invariant.1 c.loop-i.invariant.2 none),
    )

pub returns : goal.returns
returns c =
    let ss = c.args.spans.now in
    let done : length (pieces ss) ≤ c.loop-i.i = let t = c.loop-i-test.false in omega (arith, t, pieces_long ss) in
    let all = ap (λ (cs : List (List CellData)). length (flat cs)) (take_all c.loop-i.i (pieces ss) done) in
    sym (searches.none_at_all (is_sought c.args.sought.now) (cells_in ss) c.loop-i.start (c.loop-i.invariant.1 ∙ all) c.loop-i.invariant.2)
