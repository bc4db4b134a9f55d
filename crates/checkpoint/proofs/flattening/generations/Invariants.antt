use Rattle.std.proofs.Common.{◌≡◌, ◌+◌, length}
use Rattle.checkpoint_codec.specs.Spelled.{sum_of}
use Rattle.checkpoint.proofs.flattening.generations.Given as goal

abbrev pub invariant-loop-generation : goal.invariant-loop-generation
invariant-loop-generation l = l.sum + sum_of l.left ≡ sum_of l.members.set.entries

abbrev pub decreases-loop-generation : goal.decreases-loop-generation
decreases-loop-generation l = length l.left
