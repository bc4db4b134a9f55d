use Rattle.std.proofs.Common.{◌∙◌, List, drop, ap, sym, subst}
use Rattle.std.specs.Prelude.{fold}
use Rattle.ttf_form.specs.declared.form.Form.{Form}
use Rattle.form_rows.specs.Stretches.{AreNoted, place_after}
use Rattle.cot_site.specs.Code.Replicas.{ReplicaData}
use Rattle.cot_site.proofs.replica.Replica.moved.Goals as goal

pub moved-requires : goal.moved-requires
moved-requires c =
    subst (λ (fs : List Form). AreNoted c.self.inside.passages fs) (sym c.as_slice.ensures.value) c.self.invariant.4

pub returns : goal.returns
returns c =
    c.moved.ensures
    ∙ (ap (λ (fs : List Form). fold place_after c.args.place (drop c.args.from fs)) c.as_slice.ensures.value
    ∙ ap (λ (r : ReplicaData). fold place_after c.args.place (drop c.args.from r.forms)) c.self.view_is)
