use Rattle.std.proofs.Common.{◌≡◌, List, [], length, get_or, slice_get, sym, ap, ◌∙◌, subst, arith}
use Rattle.ttf_form.specs.Cells.{CellData}
use Rattle.tombstone_text.specs.Sums.{IsPart}
use Rattle.tombstone_text.specs.Code.Chunks.{bodies}
use Rattle.tombstone_text.proofs.Bodies as body
use Rattle.tombstone_text.proofs.Chunked as chunked
use Rattle.std.proofs.lemmas.Option.{slice_get_past}
use Rattle.tombstone_text.proofs.chunks.Chunks.cell.Goals as goal

pub returns-then-i-total : goal.returns-then-i-total
returns-then-i-total c =
    let cs = (bodies c.self.inside.list.items) in
    let part = subst (λ ls. IsPart ls c.find-k.result.0 c.find-k.result.1 c.args.i) c.self.invariant.0.lens_are c.find-k.ensures in
    let spot = chunked.spot cs c.find-k.result.0 c.find-k.result.1 c.args.i part in
    let read : c.index.result.now.cells ≡ get_or cs c.find-k.result.0 [] =
    body.body_read c.self.inside.list.items c.find-k.result.0 c.index.result.now spot.chunk c.index.ensures in
    c.cell.ensures
    ∙ ap (λ (s : List CellData). slice_get s c.find-k.result.1) read
    ∙ sym (chunked.flat_get cs c.find-k.result.0 c.find-k.result.1 c.args.i spot)
    ∙ ap (λ v. slice_get v.cells c.args.i) c.self.view_is

pub returns-else-i-total : goal.returns-else-i-total
returns-else-i-total c =
    let all = chunked.text-len _ _ _ _ c.self.invariant.0 in
    let seen = ap (λ v. length v.cells) c.self.view_is in
    let sum = c.total.ensures.total in
    let past = c.if-i-total.false in
    sym (slice_get_past c.args.self.now.cells c.args.i (omega arith))
