use Rattle.std.proofs.Common.{List, sym, subst}
use Rattle.op_name.specs.declared.member.Member.TheVariants.{Original}
use Rattle.context_diff.specs.Operations.{OpData}
use Rattle.context_diff.specs.Histories.{members_in}
use Rattle.ttf_form.specs.Families.{IsIn}
use Rattle.context_diff.proofs.CallerLemmas.{known_in}
use Rattle.cot_site.proofs.replica.base_of.Goals as goal

pub base-requires : goal.base-requires
base-requires c =
    subst (λ (os : List OpData). IsIn (Original c.args.name.now) (members_in os)) (sym c.new.ensures)
    (known_in c.args.book.now.ops (Original c.args.name.now) c.requires)
