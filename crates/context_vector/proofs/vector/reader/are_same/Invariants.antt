use Rattle.std.proofs.Common.{◌≡◌, length}
use lib.Pointwise.{pointwise}
use Rattle.context_vector.specs.Code.Readers.{left_of}
use Rattle.context_vector.proofs.vector.reader.are_same.Given as goal

-- what was passed is the same
abbrev pub invariant-loop-left : goal.invariant-loop-left
invariant-loop-left g l =
    pointwise g.T.PartialEq.eq (left_of l.fn.mine) (left_of l.fn.theirs) ≡ pointwise g.T.PartialEq.eq (left_of l.left) (left_of l.right)

abbrev pub decreases-loop-left : goal.decreases-loop-left
decreases-loop-left g l = length (left_of l.left)
