use Rattle.fixed_replay.proofs.ExecutedForms.{any_list_replayed}
use Rattle.fixed_replay.proofs.laws.replay_along_any_list.Goals as goal

pub returns : goal.returns
returns c = any_list_replayed
