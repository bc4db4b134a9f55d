use Rattle.std.proofs.Common.{◌∙◌, ◌↔◌, ◌≤◌, List, IsNone, length, ap, subst}
use Rattle.std.specs.Prelude.{nat_lt}
use Rattle.ttf_form.specs.declared.form.Form.{Form}
use Rattle.cot_site.specs.Code.Replicas.{ReplicaData}
use Rattle.cot_site.proofs.Executions.{executed_past}
use Rattle.cot_site.proofs.replica.Replica.executed.Goals as goal

pub returns-clause-none : goal.returns-clause-none
returns-clause-none c =
    let h = c.self.inside.book.ops in
    let fs = c.self.inside.forms.items in
    let at = c.get.ensures.lookup.0 ∙ ap (λ (xs : List Form). nat_lt c.args.i (length xs)) c.deref.ensures.value in
    subst (λ (r : ReplicaData). IsNone c.get.result ↔ (length r.history ≤ c.args.i)) c.self.view_is
    (executed_past h fs c.args.i _ c.self.invariant.0.forms at)
