use Rattle.std.proofs.Common.{List, sym, subst}
use Rattle.context_diff.specs.Operations.{OpData}
use Rattle.context_diff.specs.Histories.{members_in}
use Rattle.ttf_form.specs.Families.{IsIn}
use Rattle.context_diff.proofs.CallerLemmas.{known_in}
use Rattle.trace_explain.proofs.contexts.base_of.Goals as goal

pub base-requires : goal.base-requires
base-requires c =
    subst (λ (os : List OpData). IsIn c.args.m.now (members_in os)) (sym c.new.ensures)
    (known_in c.args.book.now.ops c.args.m.now c.requires)
