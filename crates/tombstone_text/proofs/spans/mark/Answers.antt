use Rattle.std.proofs.Common.{◌<◌, length, get_or, refl, sym, ap, ◌∙◌, subst, arith}
use Rattle.ttf_form.specs.Cells.{change_at, marked}
use Rattle.tombstone_text.specs.Cells.{HasRoomOn}
use Rattle.tombstone_text.specs.Chunks.{flag_of}
use Rattle.tombstone_text.specs.Code.Chunks.{blank}
use Rattle.tombstone_text.specs.Code.Spans.{AreFilled, pieces, run_from}
use Rattle.tombstone_text.proofs.Chunked.{filled_set}
use Rattle.tombstone_text.proofs.Following.{length-run}
use Rattle.tombstone_text.proofs.Pieces.{pieces_long, pieces_set, piece_count, pieces_changed}
use Rattle.tombstone_text.proofs.spans.mark.Goals as goal

pub cover-requires-clause-one : goal.cover-requires-clause-one
cover-requires-clause-one c =
    let ss = c.alone-i.new.spans.items in
    let lt : c.alone-i.result < length ss = omega (arith, c.alone-i.ensures.spot.chunk, pieces_long ss) in
    sym (piece_count ss c.alone-i.result c.index_mut-span.result.now lt c.index_mut-span.ensures.value) ∙ c.alone-i.ensures.one

pub cover-requires-clause-room : goal.cover-requires-clause-room
cover-requires-clause-room c =
    let ss = c.alone-i.new.spans.items in
    let x = c.index_mut-span.result.now in
    let is = pieces_changed (marked c.args.mark) ss c.alone-i.result c.args.at x (record { first = marked c.args.mark x.first; count = 1 })
    c.alone-i.ensures.spot c.alone-i.ensures.one c.index_mut-span.ensures.value refl in
    subst (λ d. HasRoomOn c.args.mark d c.args.spare.now)
    (sym (is.1 ∙ ap (λ cs. get_or cs c.args.at blank) c.alone-i.ensures.cells)) c.requires.spare

pub returns-clause-cells : goal.returns-clause-cells
returns-clause-cells c =
    let ss = c.alone-i.new.spans.items in
    let x = c.index_mut-span.result.now in
    (pieces_changed (marked c.args.mark) ss c.alone-i.result c.args.at x c.cover.new.self c.alone-i.ensures.spot c.alone-i.ensures.one
    c.index_mut-span.ensures.value c.cover.ensures.marked).0
    ∙ ap (λ cs. change_at c.args.at (marked c.args.mark) cs) c.alone-i.ensures.cells

pub returns-clause-filled : goal.returns-clause-filled
returns-clause-filled c =
    let ss = c.alone-i.new.spans.items in
    let y = c.cover.new.self in
    let one = ap (λ v. v.count) c.cover.ensures.marked in
    subst AreFilled (sym (pieces_set ss c.alone-i.result y))
    (filled_set (pieces ss) c.alone-i.result (run_from y.first y.count) c.alone-i.ensures.filled
    (omega (arith, one, length-run y.first y.count)))

pub returns-clause-flag : goal.returns-clause-flag
returns-clause-flag c =
    let ss = c.alone-i.new.spans.items in
    let x = c.index_mut-span.result.now in
    let is = pieces_changed (marked c.args.mark) ss c.alone-i.result c.args.at x c.cover.new.self c.alone-i.ensures.spot
    c.alone-i.ensures.one c.index_mut-span.ensures.value c.cover.ensures.marked in
    c.flag.ensures ∙ ap (λ v. flag_of v.first) c.cover.ensures.marked
    ∙ ap (λ d. flag_of (marked c.args.mark d)) (is.1 ∙ ap (λ cs. get_or cs c.args.at blank) c.alone-i.ensures.cells)
