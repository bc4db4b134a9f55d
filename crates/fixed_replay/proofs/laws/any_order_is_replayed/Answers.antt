use Rattle.fixed_replay.proofs.ExecutedForms.{any_order_replayed}
use Rattle.fixed_replay.proofs.laws.any_order_is_replayed.Goals as goal

pub returns : goal.returns
returns c = λ h form ms fs v forms same df. any_order_replayed h v form forms ms fs same df
