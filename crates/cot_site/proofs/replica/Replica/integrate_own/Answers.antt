use Rattle.std.proofs.Common.{◌∙◌, ap, sym}
use Rattle.context_diff.specs.Histories.{cells_in, context_of_all}
use Rattle.cot_site.specs.Code.Replicas.{ReplicaData}
use Rattle.cot_site.proofs.replica.Replica.integrate_own.Goals as goal

pub integrate_after-requires-clause-knows : goal.integrate_after-requires-clause-knows
integrate_after-requires-clause-knows c = λ sure original. c.requires.own

pub integrate_after-requires-clause-cells : goal.integrate_after-requires-clause-cells
integrate_after-requires-clause-cells c _ =
    c.cells-cells.ensures
    ∙ (ap (cells_in c.self.inside.book.ops) c.known.ensures.have
    ∙ (ap (λ (r : ReplicaData). cells_in r.history (context_of_all r.history)) c.self.view_is
    ∙ ap (cells_in c.args.self.now.history) (sym c.requires.own)))
