use Rattle.std.proofs.Common.{◌≡◌, ◌+◌, ◌++◌, List, length}
use Rattle.context_vector.specs.Code.Readers.{left_of}
use Rattle.context_vector.proofs.vector.reader.same_first.Given as goal

-- what was passed is the same
abbrev pub invariant-loop-more : goal.invariant-loop-more
invariant-loop-more g l =
    (xs : List _)
    × (length xs + l.more ≡ l.n)
    × (left_of l.initial.mine ≡ xs ++ left_of l.mine)
    × (left_of l.initial.theirs ≡ xs ++ left_of l.theirs)

abbrev pub decreases-loop-more : goal.decreases-loop-more
decreases-loop-more g l = l.more
