use Rattle.std.proofs.Common.{◌≡◌, ℕ, ◌<◌, drop, length}
use Rattle.std.specs.Prelude.{Some, slice_get}
use Rattle.context_vector.specs.Contexts.{Within}
use Rattle.context_diff.specs.Bases.{original_context}
use Rattle.context_diff.proofs.coverage.closed.Given as goal

-- the sites so far are covered
abbrev pub invariant-loop-site : goal.invariant-loop-site
invariant-loop-site l = (l.left ≡ drop l.i l.v.set.counts)
    × ((j : ℕ) (p : ℕ × ℕ) → j < l.i → slice_get l.v.set.counts j ≡ Some p
    → Within (original_context l.book.ops (record { site = p.0; number = p.1 })) l.v.set)

abbrev pub decreases-loop-site : goal.decreases-loop-site
decreases-loop-site l = length l.left
