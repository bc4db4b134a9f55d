use Rattle.std.proofs.Common.{refl}
use Rattle.tombstone_text.proofs.Measuring.{by_three}
use Rattle.tombstone_text.proofs.measure.Weight.none.Goals as goal

pub returns : goal.returns
returns c = by_three (λ m. 0) 0 0 0 refl refl refl
