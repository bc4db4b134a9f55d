use Rattle.std.proofs.Common.{length, ap, arith}
use Rattle.tombstone_text.specs.Code.Chunks.{bodies}
use Rattle.tombstone_text.proofs.Chunked as chunked
use Rattle.tombstone_text.proofs.Texts as texts
use Rattle.tombstone_text.proofs.chunks.Chunks.place_chunk.Goals as goal

pub find-k-requires : goal.find-k-requires
find-k-requires c =
    let all = chunked.text-len _ _ _ _ c.self.invariant.0 in
    let seen = ap (λ v. length v.cells) c.self.view_is in
    omega arith

pub overflow_cast-result : goal.overflow_cast-result
overflow_cast-result c =
    let all = chunked.text-len _ _ _ _ c.self.invariant.0 in
    let few = chunked.chunks-le (bodies c.self.inside.list.items) c.self.invariant.0.filled in
    let long = (texts.lens_long _ _ _ _ c.self.invariant.0).0 in
    let low = c.total.ensures.low in
    let lt = c.find-k.ensures.part in
    omega arith
