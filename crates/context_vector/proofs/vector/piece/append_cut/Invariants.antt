use Rattle.std.proofs.Common.{◌≡◌, ◌≤◌, ◌++◌, length}
use Rattle.context_vector.specs.Code.Pieces.{joined}
use Rattle.context_vector.proofs.vector.piece.append_cut.Given as goal

-- what is appended and the rest make the list
abbrev pub invariant-loop-rest : goal.invariant-loop-rest
invariant-loop-rest g l = (1 ≤ l.most) × (joined l.to.items ++ l.rest ≡ joined l.initial.to.items ++ l.list)

abbrev pub decreases-loop-rest : goal.decreases-loop-rest
decreases-loop-rest g l = length l.rest
