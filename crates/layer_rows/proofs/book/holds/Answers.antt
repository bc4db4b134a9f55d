use Rattle.std.proofs.Common.{sym, ◌∙◌}
use Rattle.context_vector.specs.Contexts.{has}
use Rattle.context_diff.proofs.CallerLemmas.{have_known}
use Rattle.layer_rows.proofs.book.holds.Goals as goal

pub returns : goal.returns
returns c there =
    sym (have_known c.args.book.now.ops c.args.book.now.have.set c.known.ensures.valid c.known.ensures.have c.args.m.now)
    ∙ ((λ i. has (sym c.have.ensures i).set c.args.m.now) ∙ (sym c.contains.ensures ∙ there))
