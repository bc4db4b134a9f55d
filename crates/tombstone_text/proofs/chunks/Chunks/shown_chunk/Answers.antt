use Rattle.std.proofs.Common.{length, filter, ap, arith}
use Rattle.ttf_form.specs.Cells.{cell_shown}
use Rattle.tombstone_text.specs.Code.Chunks.{bodies}
use Rattle.tombstone_text.proofs.Chunked as chunked
use Rattle.tombstone_text.proofs.Texts as texts
use Rattle.tombstone_text.proofs.chunks.Chunks.shown_chunk.Goals as goal

pub find-i-requires : goal.find-i-requires
find-i-requires c =
    let all = chunked.text-shown _ _ _ _ c.self.invariant.0 in
    let seen = ap (λ v. length (filter cell_shown v.cells)) c.self.view_is in
    omega arith

pub overflow_cast-result : goal.overflow_cast-result
overflow_cast-result c =
    let all = chunked.text-len _ _ _ _ c.self.invariant.0 in
    let few = chunked.chunks-le (bodies c.self.inside.list.items) c.self.invariant.0.filled in
    let long = (texts.lens_long _ _ _ _ c.self.invariant.0).1 in
    let low = c.total.ensures.low in
    let lt = c.find-i.ensures.part in
    omega arith
