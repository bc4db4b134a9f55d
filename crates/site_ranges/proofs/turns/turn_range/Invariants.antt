use Rattle.std.proofs.Common.{◌+◌, ◌-◌, ◌≤◌}
use Rattle.std.specs.Prelude.{Ok}
use Rattle.cot_site.specs.Releases.{IsLater}
use Rattle.cot_site.specs.Sites.{state_of}
use Rattle.cot_site.specs.States.{IsSettled}
use Rattle.participant.specs.Reached.{at}
use Rattle.participant.specs.Runs.{begun, progress, Runs}
use Rattle.site_ranges.specs.Originals.{originals_at}
use Rattle.site_ranges.specs.Code.Turns.{turns}
use Rattle.site_ranges.proofs.turns.turn_range.Given as goal

-- what is behind the first so many operations of the range was turned
abbrev pub invariant-loop-left : goal.invariant-loop-left
invariant-loop-left l = record {
  run : Runs (turns l.redo (originals_at l.fn.site.history (l.from + l.left) (l.count - l.left)))
      (begun (at l.fn.site l.fn.released.items)) (Ok tt) (progress l.site l.released.items l.made);
  few : l.made + l.left ≤ l.count;
  settled : IsSettled (state_of l.fn.site) → IsSettled (state_of l.site);
  later : IsLater (state_of l.fn.site) (state_of l.site);
}

abbrev pub decreases-loop-left : goal.decreases-loop-left
decreases-loop-left l = l.left
