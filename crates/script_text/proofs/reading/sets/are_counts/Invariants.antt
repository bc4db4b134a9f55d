use Rattle.std.proofs.Common.{◌≡◌, ◌≤◌, length}
use Rattle.std.specs.Prelude.{is_some}
use Rattle.op_name.specs.declared.name.TheConstants.{SITES}
use Rattle.script_text.specs.Sets.{counts_of, rising_counts}
use Rattle.script_text.proofs.reading.sets.are_counts.Given as goal

-- the list is one if the items that are left are one, from this site on
abbrev pub invariant-loop-item : goal.invariant-loop-item
invariant-loop-item l = (is_some (counts_of l.text) ≡ is_some (rising_counts l.low l.items)) × (l.low ≤ SITES)

abbrev pub decreases-loop-item : goal.decreases-loop-item
decreases-loop-item l = length l.items
