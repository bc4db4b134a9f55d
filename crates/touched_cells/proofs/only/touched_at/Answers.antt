use Rattle.context_diff.specs.Ops.{data_of}
use Rattle.touched_cells.proofs.Single.{only_with}
use Rattle.touched_cells.proofs.only.touched_at.Goals as goal

pub returns-then-is_only_of-clause-touched : goal.returns-then-is_only_of-clause-touched
returns-then-is_only_of-clause-touched c =
    only_with c.args.book.now.ops c.known.ensures.valid c.args.cells.now.cells c.requires.replayed (data_of c.args.op.now) c.requires.there
    c.look-cell.result.0 (c.is_only_of.ensures c.if-is_only_of.true) c.args.place c.look-cell.ensures.cell
