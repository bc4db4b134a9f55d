use Rattle.transform_rec.proofs.LawsHold.{setting_by, addable_form_fits}
use Rattle.transform_rec.proofs.laws.addable_form_fits.Goals as goal

pub returns : goal.returns
returns g c = addable_form_fits (setting_by c.executes.ensures.table c.executes.ensures.family c.requires.own_names)
