use Rattle.std.proofs.Common.{◌++◌, List, drop, subst}
use Rattle.form_rows.specs.RowSets.{RowData, IsKept}
use Rattle.form_rows.specs.Code.Blocks.{AreCounted}
use Rattle.form_rows.proofs.Turns.{counted-append}
use Rattle.form_rows.proofs.row.Row.cells_with.Goals as goal

pub returns : goal.returns
returns g c =
    subst (λ (r : RowData g.row.F.Denot). (ks : List g.row.F.Denot) → IsKept g.F.Include.IsInert (drop r.upto c.args.executed.now) ks
    → AreCounted g.F.Include.extent c.saturating_add.result (r.forms ++ ks)) c.self.view_is
    (λ ks kept. counted-append g.F.Include.extent c.self.inside.forms ks c.cells.result c.kept_cells.result c.saturating_add.result
    c.cells.ensures (c.kept_cells.ensures ks kept) c.saturating_add.ensures)
