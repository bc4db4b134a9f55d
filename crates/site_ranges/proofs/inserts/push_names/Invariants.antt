use Rattle.std.proofs.Common.{◌+◌, ◌-◌}
use Rattle.std.specs.Prelude.{None}
use Rattle.context_diff.specs.Replays.{shown}
use Rattle.site_ranges.proofs.Appending.{IsUnderWay}
use Rattle.site_ranges.proofs.RangeNames.{names_left}
use Rattle.site_ranges.proofs.inserts.push_names.Given as goal

abbrev pub invariant-loop-step : goal.invariant-loop-step
invariant-loop-step l =
    let cells = shown l.fn.site.history in
    IsUnderWay l.fn.out.items (names_left cells l.place l.count None) l.out.items
    (names_left cells (l.place + l.step) (l.count - l.step) l.last)
