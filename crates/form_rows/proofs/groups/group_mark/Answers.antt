use Rattle.std.proofs.Common.{List, sym, subst}
use Rattle.op_name.specs.declared.member.Member.TheVariants.{Group}
use Rattle.context_diff.specs.Operations.{OpData}
use Rattle.context_diff.specs.Histories.{members_in}
use Rattle.ttf_form.specs.Families.{IsIn}
use Rattle.context_diff.proofs.CallerLemmas.{known_in}
use Rattle.form_rows.proofs.groups.group_mark.Goals as goal

pub base-requires : goal.base-requires
base-requires c =
    subst (λ (os : List OpData). IsIn (Group c.args.target.now c.args.generation) (members_in os)) (sym c.new-bases.ensures)
    (known_in c.args.book.now.ops (Group c.args.target.now c.args.generation) c.requires)
