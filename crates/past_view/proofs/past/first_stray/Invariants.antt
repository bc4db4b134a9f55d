use Rattle.std.proofs.Common.{◌≡◌, length}
use Rattle.past_view.specs.Pasts.{first_stray}
use Rattle.past_view.proofs.past.first_stray.Given as goal

-- none so far is stray
abbrev pub invariant-loop-undone : goal.invariant-loop-undone
invariant-loop-undone l = first_stray l.at.set l.at.set.entries ≡ first_stray l.at.set l.left

abbrev pub decreases-loop-undone : goal.decreases-loop-undone
decreases-loop-undone l = length l.left
