use Rattle.std.proofs.Common.{◌≡◌, take}
use Rattle.tombstone_text.specs.Code.Weights.{weighed, weight_flagged}
use Rattle.tombstone_text.specs.declared.measure.Measure.{Measure}
use Rattle.tombstone_text.proofs.measure.weigh_shown.Given as goal

abbrev pub invariant-loop-k : goal.invariant-loop-k
invariant-loop-k l = (m : Measure) → weighed l.total m ≡ weight_flagged m (take l.k l.flags) (take l.k l.text)
