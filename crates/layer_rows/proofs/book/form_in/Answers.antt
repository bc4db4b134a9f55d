use Rattle.std.proofs.Common.{List, ◌≡◌, true, sym, subst, ◌∙◌}
use Rattle.context_vector.specs.Contexts.{has}
use Rattle.context_diff.specs.Operations.{OpData}
use Rattle.context_diff.specs.Histories.{members_in}
use Rattle.context_diff.proofs.CallerLemmas.{have_known, known_in}
use Rattle.ttf_form.specs.Families.{IsIn}
use Rattle.layer_rows.proofs.book.form_in.Goals as goal

pub base_of-requires : goal.base_of-requires
base_of-requires c =
    let b = c.args.book.now in
    let there : has b.have.set c.args.m.now ≡ true =
    (λ i. has (sym c.have.ensures i).set c.args.m.now) ∙ (sym c.contains.ensures ∙ c.if-contains.true) in
    subst (λ (os : List OpData). IsIn c.args.m.now (members_in os)) (sym c.new.ensures)
    (known_in b.ops c.args.m.now (sym (have_known b.ops b.have.set c.known.ensures.valid c.known.ensures.have c.args.m.now) ∙ there))
