use Rattle.std.proofs.Common.{◌≡◌, length}
use Rattle.char_marks.specs.Code.Strays.{first_stray}
use Rattle.char_marks.proofs.mark.first_stray.Given as goal

-- none so far is stray
abbrev pub invariant-loop-undone : goal.invariant-loop-undone
invariant-loop-undone l = first_stray l.context.set l.context.set.entries ≡ first_stray l.context.set l.left

abbrev pub decreases-loop-undone : goal.decreases-loop-undone
decreases-loop-undone l = length l.left
