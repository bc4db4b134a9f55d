use Rattle.std.proofs.Common.{◌∙◌, ap, Option, option_map}
use Rattle.ttf_form.specs.Cells.{CellData, cell_key}
use Rattle.cotpad_c.proofs.ShownCells.{shown_at, none_at}
use Rattle.cotpad_c.proofs.reading.cell_at.Goals as goal

pub returns-in-Some : goal.returns-in-Some
returns-in-Some c =
    c.id_of.ensures ∙ ap (λ (o : Option CellData). option_map cell_key o) c.in-Some.ensures.cell
    ∙ shown_at c.args.site.now.history c.cells-cells.result.now.cells c.args.place c.cells-cells.ensures.replayed

pub returns-in-None : goal.returns-in-None
returns-in-None c =
    none_at c.cells-cells.result.now.cells c.args.place c.cell_of_visible.result c.cell_of_visible.ensures.found c.in-None.is
    ∙ shown_at c.args.site.now.history c.cells-cells.result.now.cells c.args.place c.cells-cells.ensures.replayed
