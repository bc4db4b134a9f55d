use Rattle.std.proofs.Common.{◌≡◌}
use Rattle.context_vector.specs.Contexts.{count_of}
use Rattle.causal_gate.proofs.pool.Pool.renew.Given as goal

-- what waits stays, and the number of originals is that of its site
abbrev pub invariant-loop-i : goal.invariant-loop-i
invariant-loop-i l = (l.self ≡ l.initial.self) × (l.seen.count ≡ count_of l.have.set l.seen.site)
