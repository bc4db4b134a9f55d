use Rattle.std.proofs.Common.{ap, sym, ◌∙◌}
use Rattle.context_vector.specs.Contexts.{ContextData, has}
use Rattle.context_diff.specs.Ops.{data_of}
use Rattle.form_rows.proofs.CallerLemmas.{original_base}
use Rattle.cot_site.proofs.replica.knew_base.Goals as goal

pub returns-in-Some-Some : goal.returns-in-Some-Some
returns-in-Some-Some c sure y there =
    let h = c.args.book.now.ops in
    let knew =
    ap (λ (k : ContextData). has k y) c.context-in-Some-Some.ensures
    ∙ original_base h c.known.ensures.valid (data_of c.in-Some-Some.earlier.now) c.args.other.now c.in-Some-Some.ensures'.there
    c.in-Some-Some.ensures'.named y in
    let knows =
    ap (λ (k : ContextData). has k y) c.context.ensures
    ∙ original_base h c.known.ensures.valid (data_of c.in-Some-Some.op.now) c.args.name.now c.in-Some-Some.ensures.there
    c.in-Some-Some.ensures.named y in
    sym knows ∙ c.covers.ensures.0 sure y (knew ∙ there)
