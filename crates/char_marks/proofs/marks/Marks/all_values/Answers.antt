use Rattle.std.proofs.Common.{◌≡◌, List, map, ap, ◌∙◌, subst}
use Rattle.std.specs.Prelude.{IfOk}
use Rattle.context_diff.specs.Replays.{replay_of}
use Rattle.ttf_form.specs.Families.{IsIn}
use Rattle.char_marks.specs.Marks.{KeptData, MarksData}
use Rattle.char_marks.specs.Values.{values_of}
use Rattle.char_marks.proofs.marks.Marks.all_values.Goals as goal

pub values_over-requires : goal.values_over-requires
values_over-requires c =
    λ k i. c.requires k
    (subst (λ (l : List KeptData). IsIn k l) (c.as_slice.ensures.value ∙ ap (λ (s : MarksData). s.kept) c.self.view_is) i)

pub returns : goal.returns
returns c =
    let h = c.args.site.now.history in
    let same : ◌≡◌ {A = MarksData} (record { kept = c.as_slice.result.now; raised = c.self.inside.raised.set.entries }) c.args.self.now =
    ap (λ (l : List KeptData). record { kept = l; raised = c.self.inside.raised.set.entries }) c.as_slice.ensures.value
    ∙ c.self.view_is in
    subst (λ (s : MarksData). IfOk c.values_over.result (λ vs. vs.items ≡ map (values_of h s) (replay_of h))) same c.values_over.ensures
