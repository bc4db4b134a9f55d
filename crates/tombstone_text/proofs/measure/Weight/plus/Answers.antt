use Rattle.std.proofs.Common.{◌+◌, refl}
use Rattle.tombstone_text.specs.Code.Weights.{weighed}
use Rattle.tombstone_text.proofs.Measuring.{by_three}
use Rattle.tombstone_text.proofs.measure.Weight.plus.Goals as goal

pub returns : goal.returns
returns c = by_three (λ m. weighed c.args.self m + weighed c.args.other m) _ _ _ refl refl refl
