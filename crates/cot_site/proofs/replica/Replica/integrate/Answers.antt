use Rattle.std.proofs.Common.{◌∙◌, ap, sym, subst}
use Rattle.context_vector.specs.Contexts.{ContextData}
use Rattle.context_diff.specs.Operations.{OpData}
use Rattle.context_diff.specs.Histories.{IsNext, context_of_all}
use Rattle.context_diff.specs.Ops.{data_of}
use Rattle.cot_site.specs.Code.Judging.{HasCells}
use Rattle.cot_site.specs.Code.Replicas.{ReplicaData, KnowsAll}
use Rattle.cot_site.proofs.replica.Replica.integrate.Goals as goal

pub integrate_after-requires-clause-next : goal.integrate_after-requires-clause-next
integrate_after-requires-clause-next c = subst (λ (d : OpData). IsNext c.args.self.now.history d) (sym c.with_shared_lists-op.ensures)
    c.requires.next

pub integrate_after-requires-clause-cells : goal.integrate_after-requires-clause-cells
integrate_after-requires-clause-cells c =
    subst (λ (d : OpData). HasCells c.args.self.now.history d c.args.cells) (sym c.with_shared_lists-op.ensures) c.requires.cells

pub integrate_after-requires-clause-knows : goal.integrate_after-requires-clause-knows
integrate_after-requires-clause-knows c sure =
    let members = c.known.ensures.have ∙ ap (λ (r : ReplicaData). context_of_all r.history) c.self.view_is in
    subst (λ (d : ContextData). KnowsAll d (data_of c.with_shared_lists-op.result)) members (c.knows_all-alone.ensures sure)
