use Rattle.site_answers.specs.Names.{group_text}
use Rattle.script_text.proofs.Listings.{IsListedUpTo}
use Rattle.script_text.proofs.report.states.more_groups_parts.Given as goal

abbrev pub invariant-loop-group : goal.invariant-loop-group
invariant-loop-group l = IsListedUpTo (λ e. group_text e.0 e.1) l.initial.out.items l.groups l.group-index l.out.items
