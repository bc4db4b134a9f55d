use Rattle.std.proofs.Common.{◌≡◌, ◌++◌, length}
use Rattle.context_vector.specs.Code.Pieces.{joined}
use Rattle.context_vector.specs.Code.Readers.{left_of}
use Rattle.context_vector.proofs.vector.reader.Reader.front.Given as goal

-- only pieces without elements are passed
abbrev pub invariant-loop-piece : goal.invariant-loop-piece
invariant-loop-piece g l = l.self-inside.front.now ++ joined l.self-inside.pieces.now ≡ left_of l.fn.self

abbrev pub decreases-loop-piece : goal.decreases-loop-piece
decreases-loop-piece g l = length l.self-inside.pieces.now
