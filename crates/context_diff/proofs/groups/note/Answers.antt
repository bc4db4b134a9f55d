use Rattle.std.proofs.Common.{ℕ, ap, ◌∙◌}
use Rattle.std.specs.Prelude.{Some, if◌then◌else◌}
use Rattle.std.specs.Map.{lookup}
use Rattle.op_name.specs.Members.{member_eq}
use Rattle.context_diff.proofs.Placing.{groups_push, groups_push_original}
use Rattle.context_diff.proofs.groups.note.Goals as goal

pub returns-in-Original : goal.returns-in-Original
returns-in-Original c =
    λ h o is place groups. groups_push_original h o c.in-Original.field-0 c.args.groups.now.entries (is ∙ c.in-Original.is) groups

pub returns-in-Group : goal.returns-in-Group
returns-in-Group c = λ h o is place groups.
    groups_push h o c.args.m.now c.args.groups.now.entries c.put.new.groups.entries is
    (λ q. c.put.ensures q ∙ ap (λ (p : ℕ). if member_eq c.args.m.now q then Some p else lookup (member_eq q) c.args.groups.now.entries)
    place) groups
