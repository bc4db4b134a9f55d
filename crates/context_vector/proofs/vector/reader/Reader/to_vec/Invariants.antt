use Rattle.std.proofs.Common.{◌≡◌, ◌++◌, length}
use Rattle.context_vector.specs.Code.Readers.{left_of}
use Rattle.context_vector.proofs.vector.reader.Reader.to_vec.Given as goal

-- what is copied and what is left make the list
abbrev pub invariant-loop-left : goal.invariant-loop-left
invariant-loop-left g l = l.all.items ++ left_of l.left ≡ left_of l.fn.self

abbrev pub decreases-loop-left : goal.decreases-loop-left
decreases-loop-left g l = length (left_of l.left)
