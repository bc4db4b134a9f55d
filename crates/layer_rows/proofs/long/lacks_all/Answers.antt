use Rattle.ttf_form.specs.Cells.{cells_of}
use Rattle.ttf_form.specs.Laws.Cells.{block_new}
use Rattle.layer_rows.proofs.long.lacks_all.Goals as goal

pub returns : goal.returns
returns c = λ yes. block_new (cells_of c.args.cells.now.cells) c.args.ins.now.name 0 c.args.ins.now.len (c.lacks.ensures.0 yes)
