use Rattle.std.specs.Prelude.{[]}
use Rattle.std.proofs.Common.{refl}
use Rattle.cot_site.proofs.Executions.{cells_replayed}
use Rattle.cot_site.proofs.Views.{shown_count, places_are, text_is}
use Rattle.ttf_form.specs.Cells.{applied}
use Rattle.transform_rec.specs.Executing.{executed}
use Rattle.cot_site.proofs.laws.executed_forms_show_the_history.Goals as goal

pub returns : goal.returns
returns c = λ h fs ts valid forms are.
    let cs = executed applied [] fs in
    let is = cells_replayed h fs cs valid (record { forms = forms; cells = refl }) in
    (text_is h cs ts is are, places_are h cs is, shown_count h cs is)
