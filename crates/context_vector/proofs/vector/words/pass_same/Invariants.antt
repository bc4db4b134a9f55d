use Rattle.std.proofs.Common.{◌≡◌, ℕ, List, ◌++◌, length}
use Rattle.context_vector.specs.Code.Readers.{left_of}
use Rattle.context_vector.proofs.vector.words.pass_same.Given as goal

-- both have passed the same words
abbrev pub invariant-loop-n : goal.invariant-loop-n
invariant-loop-n l =
    (xs : List (ℕ × ℕ)) × (left_of l.fn.mine ≡ xs ++ left_of l.mine) × (left_of l.fn.theirs ≡ xs ++ left_of l.theirs)

abbrev pub decreases-loop-n : goal.decreases-loop-n
decreases-loop-n l = length (left_of l.mine)
