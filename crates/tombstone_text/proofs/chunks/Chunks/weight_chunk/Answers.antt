use Rattle.std.proofs.Common.{◌<◌, length, get_or, ap, ◌∙◌, subst, arith}
use Rattle.std.specs.List.{sum}
use Rattle.tombstone_text.specs.Measures.{chunk_weights, weight_shown}
use Rattle.tombstone_text.specs.Sums.{IsPart}
use Rattle.tombstone_text.specs.Code.Chunks.{bodies}
use Rattle.tombstone_text.proofs.Beside as beside
use Rattle.tombstone_text.proofs.Chunked as chunked
use Rattle.tombstone_text.proofs.Measuring.{column_is, shown-le}
use Rattle.tombstone_text.specs.Code.Weights.{column_of}
use Rattle.tombstone_text.proofs.Weighing as weigh
use Rattle.tombstone_text.proofs.chunks.Chunks.weight_chunk.Goals as goal

pub find-k-requires : goal.find-k-requires
find-k-requires c =
    let all =
    weigh.sum_column (column_of c.self.inside.weights) c.self.inside.list.items c.args.m c.self.invariant.2
    (beside.beside_same _ _ _ _ _ c.self.invariant.0 c.self.invariant.1) in
    let seen = ap (λ v. weight_shown c.args.m v.cells v.text) c.self.view_is in
    let same = ap sum c.column.ensures in
    omega (arith, all, seen, same, c.requires)

pub overflow_cast-result : goal.overflow_cast-result
overflow_cast-result c =
    let cs = c.self.inside.list.items in
    omega (
      arith,
      c.find-k.ensures.part,
      ap (λ ns. length ns) c.column.ensures,
      weigh.weights_long (column_of c.self.inside.weights) cs c.self.invariant.2 c.args.m,
      chunked.chunks-le (bodies cs) c.self.invariant.0.filled,
      chunked.text-len _ _ _ _ c.self.invariant.0,
      c.total.ensures.low,
    )

pub overflow_cast-result-2 : goal.overflow_cast-result-2
overflow_cast-result-2 c =
    let cs = c.self.inside.list.items in
    let k = c.find-k.result.0 in
    let x = c.index.result.now in
    let long = weigh.weights_long (column_of c.self.inside.weights) cs c.self.invariant.2 c.args.m in
    let same = ap (λ ns. length ns) c.column.ensures in
    let lt : k < length (bodies cs) = omega (arith, c.find-k.ensures.part, same, long) in
    omega (
      arith,
      c.find-k.ensures.within,
      ap (λ ns. get_or ns k 0) c.column.ensures,
      weigh.weight_read (column_of c.self.inside.weights) cs k x c.self.invariant.2 lt c.index.ensures c.args.m,
      shown-le c.args.m x.cells x.text,
      c.len.ensures.len,
      c.len.ensures.most,
    )

pub returns : goal.returns
returns c =
    let m = c.args.m in
    subst (λ ns. IsPart ns c.find-k.result.0 c.find-k.result.1 c.args.n)
    (c.column.ensures ∙ c.self.invariant.2 m ∙ column_is m c.self.inside.list.items
    ∙ ap (λ v. chunk_weights m v.chunks v.texts) c.self.view_is)
    c.find-k.ensures
