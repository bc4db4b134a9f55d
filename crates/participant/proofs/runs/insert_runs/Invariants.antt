use Rattle.std.proofs.Common.{◌≡◌, ◌+◌, ◌≤◌, length}
use Rattle.cot_site.specs.Releases.{IsLater}
use Rattle.cot_site.specs.Sites.{state_of}
use Rattle.cot_site.specs.States.{IsSettled}
use Rattle.participant.specs.Reached.{at}
use Rattle.participant.specs.Runs.{pieces, runs, begun, progress}
use Rattle.participant.proofs.EditRuns.{LeadsTo}
use Rattle.participant.proofs.runs.insert_runs.Given as goal

-- the pieces in front are in, and those of the rest of the text are left, at the place reached
abbrev pub invariant-loop-rest : goal.invariant-loop-rest
invariant-loop-rest l =
    LeadsTo
    (runs l.place l.text)
    (begun (at l.fn.site l.fn.released.items))
    (runs l.next l.rest)
    (progress l.site l.released.items l.made)
    × (l.made + length (pieces l.rest) ≡ length (pieces l.text))
    × (l.made ≤ length l.site.history)
    × (IsSettled (state_of l.fn.site) → IsSettled (state_of l.site))
    × IsLater (state_of l.fn.site) (state_of l.site)

abbrev pub decreases-loop-rest : goal.decreases-loop-rest
decreases-loop-rest l = length l.rest
