use Rattle.fixed_replay.proofs.Growth.{base_form_on}
use Rattle.fixed_replay.proofs.laws.base_forms_stay.Goals as goal

pub returns : goal.returns
returns c = base_form_on
