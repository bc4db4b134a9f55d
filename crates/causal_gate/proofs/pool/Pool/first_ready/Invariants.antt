use Rattle.std.proofs.Common.{◌≡◌, ℕ, ◌<◌}
use Rattle.std.specs.Prelude.{Some, slice_get}
use Rattle.context_vector.specs.Contexts.{count_of}
use Rattle.context_diff.specs.Operations.{OpData}
use Rattle.causal_gate.specs.Waiting.{IsReady}
use Rattle.causal_gate.proofs.pool.Pool.first_ready.Given as goal

-- none so far is ready, and the number of originals is that of its site
abbrev pub invariant-loop-i : goal.invariant-loop-i
invariant-loop-i l =
    ((j : ℕ) (o : OpData) → j < l.i → slice_get l.self j ≡ Some o → ¬ IsReady l.have.set o)
    × (l.seen.count ≡ count_of l.have.set l.seen.site)
