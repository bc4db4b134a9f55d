use Rattle.std.proofs.Common.{◌≡◌, ap, arith, length}
use Rattle.std.specs.Prelude.{map}
use Rattle.context_diff.specs.Histories.{all_cells}
use Rattle.context_diff.specs.Books.{BookData}
use Rattle.context_diff.specs.Ops.{data_of}
use Rattle.context_diff.proofs.book.Book.known.Goals as goal

pub returns-clause-short : goal.returns-clause-short
returns-clause-short c =
    let size : length (map data_of c.self.inside.ops.items) ≡ length c.args.self.now.ops =
    ap (λ (b : BookData). length b.ops) c.self.view_is in
    omega (arith, c.self.invariant.short)

pub returns-clause-cells : goal.returns-clause-cells
returns-clause-cells c =
    let size : all_cells (map data_of c.self.inside.ops.items) ≡ all_cells c.args.self.now.ops =
    ap (λ (b : BookData). all_cells b.ops) c.self.view_is in
    omega (arith, c.self.invariant.few)
