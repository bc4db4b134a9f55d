use Rattle.std.proofs.Common.{◌∙◌}
use Rattle.context_diff.proofs.Placing.{groups_pop, groups_pop_original}
use Rattle.context_diff.proofs.groups.forget.Goals as goal

pub returns-in-Original : goal.returns-in-Original
returns-in-Original c =
    λ h o is unknown groups. groups_pop_original h o c.in-Original.field-0 c.args.groups.now.entries (is ∙ c.in-Original.is) groups

pub returns-in-Group : goal.returns-in-Group
returns-in-Group c =
    λ h o is unknown groups. groups_pop h o c.args.m.now c.args.groups.now.entries c.take.new.groups.entries is unknown c.take.ensures
    groups
