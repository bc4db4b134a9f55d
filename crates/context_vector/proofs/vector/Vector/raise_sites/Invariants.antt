use Rattle.std.proofs.Common.{◌≡◌, length}
use Rattle.std.specs.Prelude.{◌||◌}
use Rattle.op_name.specs.declared.member.Member.{Member}
use Rattle.context_vector.specs.Contexts.{has, AreCounts}
use Rattle.context_vector.specs.Code.Lists.{of_counts}
use Rattle.context_vector.proofs.vector.Vector.raise_sites.Given as goal

-- what is in the vector or still to come is what was in it or in the list
abbrev pub invariant-loop-site : goal.invariant-loop-site
invariant-loop-site l = AreCounts 0 l.left
    × ((y : Member) → (has l.self.set y || has (of_counts l.left) y) ≡ (has l.initial.self.set y || has (of_counts l.fn.counts) y))

abbrev pub decreases-loop-site : goal.decreases-loop-site
decreases-loop-site l = length l.left
