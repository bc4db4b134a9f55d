use Rattle.std.proofs.Common.{◌≡◌, ◌≤◌, ◌-◌, length, take}
use Rattle.form_rows.specs.Code.Blocks.{joined}
use Rattle.form_rows.proofs.blocks.cut.Given as goal

abbrev pub invariant-loop-i : goal.invariant-loop-i
invariant-loop-i g l = record { within : l.i ≤ length l.forms; made : joined l.blocks.items ≡ take l.i l.forms }

abbrev pub decreases-loop-i : goal.decreases-loop-i
decreases-loop-i g l = length l.forms - l.i
