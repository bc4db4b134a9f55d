use Rattle.std.proofs.Common.{◌≡◌, ◌+◌, ◌≤◌, length}
use Rattle.op_name.specs.declared.name.TheConstants.{SITES}
use Rattle.context_vector.specs.Contexts.{empty}
use Rattle.context_vector.specs.Vectors.{SitesBelow}
use Rattle.script_text.specs.Sets.{counts_of, site_count_of, comes_from}
use Rattle.script_text.proofs.SetLaws.{IsTaken}
use Rattle.script_text.proofs.reading.sets.push_counts.Given as goal

-- the counts so far are in the set, all below this site, and those that are left complete them
abbrev pub invariant-loop-item : goal.invariant-loop-item
invariant-loop-item l =
    IsTaken comes_from (λ p. p.0 + 1) site_count_of (counts_of l.text) l.set.set.counts l.low l.items
    × SitesBelow l.set.set.counts l.low
    × (l.low ≤ SITES)
    × (l.set.set ≡ record empty { counts = l.set.set.counts })

abbrev pub decreases-loop-item : goal.decreases-loop-item
decreases-loop-item l = length l.items
