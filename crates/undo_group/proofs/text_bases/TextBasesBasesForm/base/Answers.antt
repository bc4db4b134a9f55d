use Rattle.std.proofs.Common.{◌≡◌, true, subst}
use Rattle.op_name.specs.declared.member.Member.{Member}
use Rattle.context_diff.specs.Histories.{is_known, IsValid}
use Rattle.undo_group.specs.Laws.Members.{target_known}
use Rattle.context_diff.proofs.CallerLemmas.{in_known}
use Rattle.undo_group.proofs.text_bases.TextBasesBasesForm.base.Goals as goal

pub original_form-requires : goal.original_form-requires
original_form-requires c =
    let h = c.args.self.now in
    subst (λ (m : Member). is_known h m ≡ true) c.in-Original.is (in_known h c.args.m.now c.requires)

pub original_form-requires-in-Group : goal.original_form-requires-in-Group
original_form-requires-in-Group c =
    let h = c.args.self.now in
    target_known h (subst IsValid c.self.view_is c.known.ensures.valid) c.in-Group.target c.in-Group.generation
    (subst (λ (m : Member). is_known h m ≡ true) c.in-Group.is (in_known h c.args.m.now c.requires))
