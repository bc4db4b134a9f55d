use Rattle.std.proofs.Common.{◌≡◌, drop}
use Rattle.std.specs.Prelude.{◌&&◌}
use lib.Pointwise.{pointwise}
use Rattle.context_vector.proofs.vector.rising.are_equal.Given as goal

-- the answer so far, with that for what is left
abbrev pub invariant-loop-i : goal.invariant-loop-i
invariant-loop-i g l =
    (l.equal && pointwise g.T.PartialEq.eq (drop l.i l.one) (drop l.i l.other)) ≡ pointwise g.T.PartialEq.eq l.one l.other
