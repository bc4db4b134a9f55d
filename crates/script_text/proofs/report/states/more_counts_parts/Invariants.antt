use Rattle.script_text.specs.Report.{count_text}
use Rattle.script_text.proofs.Listings.{IsListedUpTo}
use Rattle.script_text.proofs.report.states.more_counts_parts.Given as goal

abbrev pub invariant-loop-count : goal.invariant-loop-count
invariant-loop-count l = IsListedUpTo count_text l.initial.out.items l.counts l.count-index l.out.items
