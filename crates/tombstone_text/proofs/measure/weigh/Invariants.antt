use Rattle.std.proofs.Common.{◌≡◌, take}
use Rattle.tombstone_text.specs.Measures.{weight_of}
use Rattle.tombstone_text.specs.Code.Weights.{weighed}
use Rattle.tombstone_text.specs.declared.measure.Measure.{Measure}
use Rattle.tombstone_text.proofs.measure.weigh.Given as goal

abbrev pub invariant-loop-k : goal.invariant-loop-k
invariant-loop-k l = (m : Measure) → weighed l.total m ≡ weight_of m (take l.k l.text)
