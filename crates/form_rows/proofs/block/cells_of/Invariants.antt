use Rattle.std.proofs.Common.{take}
use Rattle.form_rows.specs.Code.Blocks.{AreCounted}
use Rattle.form_rows.proofs.block.cells_of.Given as goal

abbrev pub invariant-loop-i : goal.invariant-loop-i
invariant-loop-i g l = AreCounted g.F.Include.extent l.cells (take l.i l.forms)
