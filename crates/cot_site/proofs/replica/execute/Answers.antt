use Rattle.std.proofs.Common.{List, [], ◌∷◌, sym, subst}
use Rattle.ttf_form.specs.declared.form.Form.{Form}
use Rattle.form_rows.specs.Stretches.{AreNoted}
use Rattle.form_rows.proofs.CallerLemmas.{noted_more}
use Rattle.cot_site.proofs.replica.execute.Goals as goal

pub returns-in-Ok-clause-noted : goal.returns-in-Ok-clause-noted
returns-in-Ok-clause-noted c =
    let noted =
    subst (λ (fs : List Form). AreNoted c.form_with_room.new.passages fs) c.as_slice.ensures.value c.form_with_room.ensures.noted in
    subst (λ (fs : List Form). AreNoted c.form_with_room.new.passages fs) (sym c.append.ensures)
    (noted_more c.form_with_room.new.passages c.args.forms.now.items (c.in-Ok.form ∷ []) noted)
