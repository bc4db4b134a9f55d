use Rattle.std.proofs.Common.{◌≡◌, length, slice_get}
use Rattle.context_vector.specs.Code.Readers.{left_of}
use Rattle.context_vector.proofs.vector.reader.Reader.at.Given as goal

-- the element stands so many places further on in what is left
abbrev pub invariant-loop-left : goal.invariant-loop-left
invariant-loop-left g l = slice_get (left_of l.left) l.past ≡ slice_get (left_of l.fn.self) l.fn.i

abbrev pub decreases-loop-left : goal.decreases-loop-left
decreases-loop-left g l = length (left_of l.left)
