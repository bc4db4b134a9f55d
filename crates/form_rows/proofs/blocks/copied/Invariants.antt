use Rattle.std.proofs.Common.{◌≡◌, take}
use Rattle.form_rows.specs.Code.Blocks.{joined}
use Rattle.form_rows.proofs.blocks.copied.Given as goal

abbrev pub invariant-loop-i : goal.invariant-loop-i
invariant-loop-i g l = l.all.items ≡ joined (take l.i l.blocks)
