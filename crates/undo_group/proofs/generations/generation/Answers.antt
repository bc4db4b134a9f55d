use Rattle.std.proofs.Common.{sym, ap, ◌∙◌}
use Rattle.context_vector.specs.Contexts.{entry_of}
use Rattle.context_diff.proofs.CallerLemmas.{generation_is}
use Rattle.undo_group.proofs.generations.generation.Goals as goal

-- src/generations.rt:13:1
pub returns-clause-history : goal.returns-clause-history
returns-clause-history c h valid all =
    c.entry.ensures ∙ (ap (λ x. entry_of x c.args.name.now) all ∙ sym (generation_is h valid c.args.name.now))
