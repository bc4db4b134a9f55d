use Rattle.std.proofs.Common.{◌∙◌, ap, Option, option_map}
use Rattle.ttf_form.specs.Cells.{CellData}
use Rattle.cot_site.proofs.Views.{no_name}
use Rattle.cot_site.proofs.replica.name_of_visible.Goals as goal

pub returns-in-Some : goal.returns-in-Some
returns-in-Some c = c.name_of.ensures ∙ ap (λ (o : Option CellData). option_map (λ (d : CellData). d.name) o) c.in-Some.ensures.cell

pub returns-in-None : goal.returns-in-None
returns-in-None c = no_name c.args.cells.now.cells c.args.v c.cell_of_visible.result c.cell_of_visible.ensures.found c.in-None.is
