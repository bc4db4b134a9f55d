use Rattle.std.proofs.Common.{◌++◌, ℕ, List, ap, ◌∙◌}
use Rattle.past_view.proofs.PartText.{past_is_sub}
use Rattle.past_view.proofs.past.append_text.Goals as goal

pub returns-clause-text : goal.returns-clause-text
returns-clause-text c =
    c.in_ok-write_past.ensures.ok
    ∙ ap (λ (bs : List ℕ). c.args.out.now.items ++ bs)
    (past_is_sub c.args.book.now.ops c.known.ensures.valid c.args.at.now.set c.in_default.ensures.closed c.args.cells.now.cells
    c.requires.cells c.args.cells.now.text c.requires.text)
