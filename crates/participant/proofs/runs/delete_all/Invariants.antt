use Rattle.std.proofs.Common.{◌≤◌, ◌-◌, length}
use Rattle.cot_site.specs.Releases.{IsLater}
use Rattle.cot_site.specs.Sites.{state_of}
use Rattle.cot_site.specs.States.{IsSettled}
use Rattle.participant.specs.Reached.{at}
use Rattle.participant.specs.Runs.{deletes, begun, progress}
use Rattle.participant.proofs.EditRuns.{LeadsTo}
use Rattle.participant.proofs.runs.delete_all.Given as goal

-- so many characters are gone, and the others are left
abbrev pub invariant-loop-made : goal.invariant-loop-made
invariant-loop-made l =
    LeadsTo
    (deletes l.place l.count)
    (begun (at l.fn.site l.fn.released.items))
    (deletes l.place (l.count - l.made))
    (progress l.site l.released.items l.made)
    × (l.made ≤ l.count)
    × (l.made ≤ length l.site.history)
    × (IsSettled (state_of l.fn.site) → IsSettled (state_of l.site))
    × IsLater (state_of l.fn.site) (state_of l.site)

abbrev pub decreases-loop-made : goal.decreases-loop-made
decreases-loop-made l = l.count - l.made
