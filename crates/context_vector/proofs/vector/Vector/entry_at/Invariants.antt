use Rattle.std.proofs.Common.{◌≡◌, ◌-◌, ◌≤◌, drop}
use Rattle.context_vector.proofs.vector.Vector.entry_at.Given as goal

-- so many names are passed
abbrev pub invariant-loop-passed : goal.invariant-loop-passed
invariant-loop-passed l = (l.left ≡ drop l.passed l.self.set.entries) × (l.passed ≤ l.i)

abbrev pub decreases-loop-passed : goal.decreases-loop-passed
decreases-loop-passed l = l.i - l.passed
