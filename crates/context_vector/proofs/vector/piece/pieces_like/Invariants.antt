use Rattle.std.proofs.Common.{◌≡◌, ◌++◌, length}
use Rattle.context_vector.specs.Code.Pieces.{joined}
use Rattle.context_vector.proofs.vector.piece.pieces_like.Given as goal

-- the pieces so far and the rest make the list
abbrev pub invariant-loop-piece : goal.invariant-loop-piece
invariant-loop-piece g l = joined l.all.items ++ l.rest ≡ l.list

abbrev pub decreases-loop-piece : goal.decreases-loop-piece
decreases-loop-piece g l = length l.left
