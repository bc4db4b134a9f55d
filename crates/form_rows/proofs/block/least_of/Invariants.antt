use Rattle.std.proofs.Common.{take}
use Rattle.form_rows.specs.Code.Blocks.{AreFrom}
use Rattle.form_rows.proofs.block.least_of.Given as goal

abbrev pub invariant-loop-i : goal.invariant-loop-i
invariant-loop-i g l = AreFrom g.F.Named.named l.site l.least (take l.i l.forms)
