-- The greatest generation that they have of the name is between the two.
use Rattle.std.proofs.Common.{◌-◌, ◌≤◌}
use Rattle.context_vector.specs.Contexts.{entry_of}
use Rattle.site_changes.proofs.earlier.Earlier.generation.Given as goal

abbrev pub invariant-loop-low : goal.invariant-loop-low
invariant-loop-low l = (l.low ≤ entry_of l.self l.name) × (entry_of l.self l.name ≤ l.high)

abbrev pub decreases-loop-low : goal.decreases-loop-low
decreases-loop-low l = l.high - l.low
