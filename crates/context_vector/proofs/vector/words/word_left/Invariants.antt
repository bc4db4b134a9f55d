use Rattle.std.proofs.Common.{◌≡◌, length}
use Rattle.context_vector.specs.Contexts.{count_in}
use Rattle.context_vector.specs.Code.Readers.{left_of}
use Rattle.context_vector.specs.Code.Words.{AreWords}
use Rattle.context_vector.proofs.vector.words.word_left.Given as goal

-- only lesser keys are passed
abbrev pub invariant-loop-left : goal.invariant-loop-left
invariant-loop-left l = record {
  are : AreWords 0 (left_of l.left);
  same : count_in (left_of l.fn.words) l.key ≡ count_in (left_of l.left) l.key;
}

abbrev pub decreases-loop-left : goal.decreases-loop-left
decreases-loop-left l = length (left_of l.left)
