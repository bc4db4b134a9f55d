use Rattle.std.proofs.Common.{arith}
use Rattle.tombstone_text.specs.Code.Chunks.{bodies}
use Rattle.tombstone_text.proofs.Bodies as body
use Rattle.tombstone_text.proofs.Chunked as chunked
use Rattle.tombstone_text.proofs.chunks.Chunks.chunk_count.Goals as goal

pub overflow_cast-result : goal.overflow_cast-result
overflow_cast-result c =
    let all = chunked.text-len _ _ _ _ c.self.invariant.0 in
    let few = chunked.chunks-le (bodies c.self.inside.list.items) c.self.invariant.0.filled in
    let low = c.total.ensures.low in
    omega (arith, body.bodies_long c.self.inside.list.items)
