use Rattle.std.proofs.Common.{◌≡◌, ◌≤◌, length}
use Rattle.context_vector.specs.Contexts.{count_in, AreCounts}
use Rattle.context_vector.specs.Shortfalls.{first_short}
use Rattle.context_vector.specs.Code.Readers.{left_of}
use Rattle.context_vector.proofs.vector.counting.pass_enough.Given as goal

-- no site that was passed is short
abbrev pub invariant-loop-had : goal.invariant-loop-had
invariant-loop-had l = record {
  mine : AreCounts 0 (left_of l.mine);
  theirs : AreCounts 0 (left_of l.theirs);
  same : first_short (count_in (left_of l.initial.mine)) (left_of l.initial.theirs)
      ≡ first_short (count_in (left_of l.mine)) (left_of l.theirs);
  fewer : length (left_of l.mine) ≤ length (left_of l.initial.mine);
  fewer_wanted : length (left_of l.theirs) ≤ length (left_of l.initial.theirs);
}

abbrev pub decreases-loop-had : goal.decreases-loop-had
decreases-loop-had l = length (left_of l.mine)
