use Rattle.std.proofs.Common.{length, take, ap, ◌∙◌, arith}
use Rattle.std.specs.List.{sum}
use Rattle.tombstone_text.specs.Chunks.{flat, joined}
use Rattle.tombstone_text.specs.Measures.{weight_shown}
use Rattle.tombstone_text.proofs.Beside as beside
use Rattle.tombstone_text.specs.Code.Weights.{column_of}
use Rattle.tombstone_text.proofs.Weighing as weigh
use Rattle.tombstone_text.proofs.chunks.Chunks.weight_start.Goals as goal

pub start_of-requires : goal.start_of-requires
start_of-requires c =
    let n = ap (λ v. length v.chunks) c.self.view_is in
    let ps = (column_of c.self.inside.weights) in
    let long = weigh.weights_long ps c.self.inside.list.items c.self.invariant.2 c.args.m in
    let same = ap (λ ns. length ns) c.column.ensures in
    omega (arith, n, long, same, c.requires)

pub returns : goal.returns
returns c =
    let i = c.args.i in
    let m = c.args.m in
    let cs = c.self.inside.list.items in
    c.start_of.ensures ∙ ap (λ ns. sum (take i ns)) c.column.ensures
    ∙ weigh.sum_taken (column_of c.self.inside.weights) cs m i c.self.invariant.2
    (beside.beside_same _ _ _ _ _ c.self.invariant.0 c.self.invariant.1)
    ∙ ap (λ v. weight_shown m (flat (take i v.chunks)) (joined (take i v.texts))) c.self.view_is
