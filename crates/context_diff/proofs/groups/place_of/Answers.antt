use Rattle.std.proofs.Common.{◌∙◌}
use Rattle.context_diff.proofs.Derived.{by_member}
use Rattle.context_diff.proofs.groups.place_of.Goals as goal

pub returns : goal.returns
returns c = c.copied.ensures ∙ (c.get.ensures.value ∙ by_member c.args.m.now c.args.groups.now.entries)
