use Rattle.std.proofs.Common.{arith}
use Rattle.context_vector.proofs.Entries.{length_at_most}
use Rattle.context_vector.proofs.vector.kept.Kept.len.Goals as goal

pub returns-clause-range : goal.returns-clause-range
returns-clause-range c = omega (arith, c.self.invariant.2, length_at_most _ c.self.invariant.0.entries)
