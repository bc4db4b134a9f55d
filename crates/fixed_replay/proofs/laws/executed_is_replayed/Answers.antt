use Rattle.fixed_replay.proofs.ExecutedForms.{executed_replayed}
use Rattle.fixed_replay.proofs.laws.executed_is_replayed.Goals as goal

pub returns : goal.returns
returns c = λ h form fs v forms df. executed_replayed h v form forms fs df
