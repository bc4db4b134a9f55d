use Rattle.site_anchors.proofs.Cells.{cells_once}
use Rattle.site_anchors.proofs.laws.each_cell_stands_once.Goals as goal

pub returns : goal.returns
returns c = cells_once
