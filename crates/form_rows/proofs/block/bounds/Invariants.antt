use Rattle.std.proofs.Common.{take}
use Rattle.form_rows.specs.Code.Blocks.{AreWithin}
use Rattle.form_rows.proofs.block.bounds.Given as goal

abbrev pub invariant-loop-i : goal.invariant-loop-i
invariant-loop-i g l = AreWithin g.F.Include.place l.low l.high (take l.i l.forms)
