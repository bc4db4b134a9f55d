use Rattle.undo_group.specs.Laws.Forms.{base_forms_hold}
use Rattle.fixed_replay.proofs.laws.operations_say_base_forms.Goals as goal

pub returns : goal.returns
returns c = base_forms_hold
