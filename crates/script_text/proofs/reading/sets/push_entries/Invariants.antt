use Rattle.std.proofs.Common.{◌≡◌, length}
use Rattle.std.specs.Prelude.{Some}
use Rattle.script_text.specs.Sets.{entries_of, undone_of, comes_after}
use Rattle.script_text.proofs.SetLaws.{IsTaken, AllBefore}
use Rattle.script_text.proofs.reading.sets.push_entries.Given as goal

-- the names so far are in the set, all up to the last one, and those that are left complete them
abbrev pub invariant-loop-item : goal.invariant-loop-item
invariant-loop-item l =
    IsTaken comes_after (λ e. Some e.0) undone_of (entries_of l.text) l.set.set.entries l.last l.items
    × AllBefore l.set.set.entries l.last
    × (l.set.set ≡ record l.initial.set.set { entries = l.set.set.entries })

abbrev pub decreases-loop-item : goal.decreases-loop-item
decreases-loop-item l = length l.items
