use Rattle.std.proofs.Common.{◌≡◌, take}
use Rattle.context_vector.proofs.vector.few.Few.of.Given as goal

-- the counts so far
abbrev pub invariant-loop-count : goal.invariant-loop-count
invariant-loop-count l = l.few ≡ take l.count-index l.list
