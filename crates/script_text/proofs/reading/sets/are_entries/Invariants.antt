use Rattle.std.proofs.Common.{◌≡◌, length}
use Rattle.std.specs.Prelude.{is_some}
use Rattle.script_text.specs.Sets.{entries_of, rising_entries}
use Rattle.script_text.proofs.reading.sets.are_entries.Given as goal

-- the list is one if the items that are left are one, after the last name
abbrev pub invariant-loop-item : goal.invariant-loop-item
invariant-loop-item l = is_some (entries_of l.text) ≡ is_some (rising_entries l.last l.items)

abbrev pub decreases-loop-item : goal.decreases-loop-item
decreases-loop-item l = length l.items
