use Rattle.std.proofs.Common.{◌≡◌, false, take}
use Rattle.ttf_form.specs.Families.{IsIn}
use Rattle.form_rows.specs.Names.{had_by}
use Rattle.form_rows.specs.Code.Blocks.{joined}
use Rattle.form_rows.proofs.blocks.none_in.Given as goal

abbrev pub invariant-loop-i : goal.invariant-loop-i
invariant-loop-i g l = (f : g.row.F.Denot) → IsIn f (joined (take l.i l.blocks)) → had_by g.F.Named.named l.context.set f ≡ false
