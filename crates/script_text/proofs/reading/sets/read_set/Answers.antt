use Rattle.std.proofs.Common.{sym, ◌∙◌}
use Rattle.script_text.proofs.SetLaws.{set_pushed}
use Rattle.script_text.proofs.reading.sets.read_set.Goals as goal

pub returns-then-branch-2 : goal.returns-then-branch-2
returns-then-branch-2 c =
    set_pushed c.args.counts.now c.args.groups.now c.push_counts.new.set.set c.push_entries.new.set.set
    (sym c.if-branch.true ∙ c.in_ok-push_counts.ensures.read) (sym c.if-branch-2.true ∙ c.in_ok-push_entries.ensures.read)
    c.in_ok-push_counts.ensures.pushed c.in_ok-push_entries.ensures.pushed
