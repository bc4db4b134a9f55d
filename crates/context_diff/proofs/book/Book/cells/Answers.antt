use Rattle.std.proofs.Common.{◌≡◌, true, ap, sym, ◌∙◌}
use Rattle.std.specs.Prelude.{map, Contains}
use Rattle.context_vector.specs.Contexts.{has}
use Rattle.context_diff.specs.Operations.{OpData, member_of}
use Rattle.context_diff.specs.Histories.{cells_in}
use Rattle.context_diff.specs.Ops.{data_of}
use Rattle.context_diff.specs.Books.{BookData}
use Rattle.context_diff.proofs.Complete.{complete}
use Rattle.context_diff.proofs.CellCounts.{cells_of_all}
use Rattle.context_diff.proofs.Known.{known_member}
use Rattle.context_diff.proofs.book.Book.cells.Goals as goal

pub returns : goal.returns
returns c =
    let h = map data_of c.self.inside.ops.items in
    let have = c.self.inside.have.set in
    let there : (o : OpData) → Contains h o → has have (member_of o) ≡ true = λ o at.
    (λ i. has (c.self.invariant.members i) (member_of o))
    ∙ ((complete h c.self.invariant.valid).holds (member_of o) ∙ known_member h o at) in
    c.self.invariant.cells ∙ (sym (cells_of_all h have there) ∙ ap (λ (b : BookData). cells_in b.ops b.have.set) c.self.view_is)
