use Rattle.std.proofs.Common.{◌≡◌, ◌++◌, length}
use Rattle.context_vector.proofs.vector.names.Names.to_vec.Given as goal

-- what is copied and what is left make the list
abbrev pub invariant-loop-name : goal.invariant-loop-name
invariant-loop-name l = l.all.items ++ l.left ≡ l.fn.self

abbrev pub decreases-loop-name : goal.decreases-loop-name
decreases-loop-name l = length l.left
