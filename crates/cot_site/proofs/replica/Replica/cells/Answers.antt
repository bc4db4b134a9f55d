use Rattle.std.proofs.Common.{◌∙◌, [], ap, subst}
use Rattle.ttf_form.specs.Cells.{applied}
use Rattle.transform_rec.specs.Executing.{executed}
use Rattle.fixed_replay.specs.Replayed.{IsReplayed, AreCharacters}
use Rattle.cot_site.specs.Code.Replicas.{ReplicaData}
use Rattle.cot_site.proofs.Executions.{cells_replayed}
use Rattle.cot_site.proofs.replica.Replica.cells.Goals as goal

pub returns-clause-forms : goal.returns-clause-forms
returns-clause-forms c = c.self.invariant.0.cells ∙ ap (λ (r : ReplicaData). executed applied [] r.forms) c.self.view_is

pub returns-clause-replayed : goal.returns-clause-replayed
returns-clause-replayed c =
    let h = c.self.inside.book.ops in
    let cs = c.self.inside.cells.cells in
    subst (λ (r : ReplicaData). IsReplayed r.history cs) c.self.view_is
    (cells_replayed h c.self.inside.forms.items cs c.known.ensures.valid c.self.invariant.0)

pub returns-clause-text : goal.returns-clause-text
returns-clause-text c =
    subst (λ (r : ReplicaData). AreCharacters r.history c.self.inside.cells.cells c.self.inside.cells.text) c.self.view_is
    c.self.invariant.5
