use Rattle.std.proofs.Common.{◌+◌, ◌≤◌, length, map, reverse, take}
use Rattle.cot_site.specs.Releases.{IsLater}
use Rattle.cot_site.specs.Sites.{state_of}
use Rattle.cot_site.specs.States.{IsSettled}
use Rattle.participant.specs.Reached.{at}
use Rattle.participant.specs.Runs.{begun, progress}
use Rattle.participant.specs.Code.Running.{turning}
use Rattle.participant.proofs.EditRuns.{LeadsTo}
use Rattle.participant.proofs.runs.turn_all.Given as goal

-- the first so many names are left, and no more operations were made than names were taken
abbrev pub invariant-loop-left : goal.invariant-loop-left
invariant-loop-left l =
    LeadsTo
    (map (turning l.redo) (reverse l.names))
    (begun (at l.fn.site l.fn.released.items))
    (map (turning l.redo) (reverse (take l.left l.names)))
    (progress l.site l.released.items l.made)
    × (l.made + l.left ≤ length l.names)
    × (l.made ≤ length l.site.history)
    × (IsSettled (state_of l.fn.site) → IsSettled (state_of l.site))
    × IsLater (state_of l.fn.site) (state_of l.site)

abbrev pub decreases-loop-left : goal.decreases-loop-left
decreases-loop-left l = l.left
