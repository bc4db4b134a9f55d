use Rattle.std.proofs.Common.{◌≡◌, length}
use lib.Pointwise.{pointwise}
use Rattle.context_vector.specs.Equality.{entry_eq}
use Rattle.context_vector.proofs.vector.names.are_same_names.Given as goal

-- what was passed is the same
abbrev pub invariant-loop-one : goal.invariant-loop-one
invariant-loop-one l = pointwise entry_eq l.fn.mine l.fn.theirs ≡ pointwise entry_eq l.left l.right

abbrev pub decreases-loop-one : goal.decreases-loop-one
decreases-loop-one l = length l.left
