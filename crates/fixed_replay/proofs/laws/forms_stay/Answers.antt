use Rattle.ttf_form.specs.Forms.{form_over}
use Rattle.fixed_replay.proofs.Growth.{forms_grow}
use Rattle.fixed_replay.proofs.laws.forms_stay.Goals as goal

pub returns : goal.returns
returns c = λ h o form longer fs f v agree df d. forms_grow form_over h o form longer v agree fs f df d
