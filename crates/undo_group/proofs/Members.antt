-- The members of a book are those of its history.
use Rattle.std.proofs.Common.{◌≡◌, true, List, sym, ◌∙◌}
use Rattle.op_name.specs.declared.member.Member.{Member}
use Rattle.context_vector.specs.Contexts.{ContextData, has}
use Rattle.context_diff.specs.Operations.{OpData}
use Rattle.context_diff.specs.Histories.{members_in, context_of_all, IsValid}
use Rattle.context_diff.proofs.CallerLemmas.{have_known, known_in}
use Rattle.ttf_form.specs.Families.{IsIn}

-- a member of a book stands in the list of its members
pub had_listed : (h : List OpData) (have : ContextData) → IsValid h → have ≡ context_of_all h → (m : Member) → has have m ≡ true
    → IsIn m (members_in h)
had_listed h have valid all m there = known_in h m (sym (have_known h have valid all m) ∙ there)
