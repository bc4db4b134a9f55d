use Rattle.std.proofs.Common.{sym, ◌∙◌}
use Rattle.script_text.proofs.SetLaws.{told_both, set_found}
use Rattle.script_text.proofs.reading.sets.spells_set.Goals as goal

pub returns-then-are_counts-clause-found : goal.returns-then-are_counts-clause-found
returns-then-are_counts-clause-found c =
    set_found c.args.counts.now c.args.groups.now c.are_entries.result
    (c.are_entries.ensures ∙ told_both c.args.counts.now c.args.groups.now (sym c.if-are_counts.true ∙ c.are_counts.ensures))
