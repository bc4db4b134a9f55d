use Rattle.fixed_replay.proofs.ExecutedForms.{history_forms}
use Rattle.fixed_replay.proofs.laws.histories_have_forms.Goals as goal

pub returns : goal.returns
returns c = λ h form v forms. history_forms h v form forms
