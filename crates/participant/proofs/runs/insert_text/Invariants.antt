use Rattle.std.proofs.Common.{◌≡◌, ◌≤◌, length, drop, chars}
use Rattle.cot_site.specs.Releases.{IsLater}
use Rattle.cot_site.specs.Sites.{state_of}
use Rattle.cot_site.specs.States.{IsSettled}
use Rattle.participant.specs.Reached.{at}
use Rattle.participant.specs.Runs.{inserts, begun, progress}
use Rattle.participant.proofs.EditRuns.{LeadsTo}
use Rattle.participant.proofs.runs.insert_text.Given as goal

-- the characters that were gone over are in, and the rest of the text is left, at the place reached
abbrev pub invariant-loop-ch : goal.invariant-loop-ch
invariant-loop-ch l =
    LeadsTo
    (inserts l.place (chars l.text))
    (begun (at l.fn.site l.fn.released.items))
    (inserts l.next (drop (length l.yielded) (chars l.text)))
    (progress l.site l.released.items l.made)
    × (l.made ≡ length l.yielded)
    × (l.made ≤ length l.site.history)
    × (IsSettled (state_of l.fn.site) → IsSettled (state_of l.site))
    × IsLater (state_of l.fn.site) (state_of l.site)
