use Rattle.std.proofs.Common.{ap, ◌∙◌}
use Rattle.std.specs.List.{sum}
use Rattle.tombstone_text.specs.Measures.{weight_shown}
use Rattle.tombstone_text.proofs.Beside as beside
use Rattle.tombstone_text.specs.Code.Weights.{column_of}
use Rattle.tombstone_text.proofs.Weighing as weigh
use Rattle.tombstone_text.proofs.chunks.Chunks.weight.Goals as goal

pub returns : goal.returns
returns c =
    c.total.ensures.total ∙ ap sum c.column.ensures
    ∙ weigh.sum_column (column_of c.self.inside.weights) c.self.inside.list.items c.args.m c.self.invariant.2
    (beside.beside_same _ _ _ _ _ c.self.invariant.0 c.self.invariant.1)
    ∙ ap (λ v. weight_shown c.args.m v.cells v.text) c.self.view_is
