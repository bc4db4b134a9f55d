use Rattle.std.proofs.Common.{◌≡◌, false, take}
use Rattle.context_vector.specs.Contexts.{count_of}
use Rattle.ttf_form.specs.Families.{IsIn}
use Rattle.form_rows.specs.Names.{had_by}
use Rattle.form_rows.proofs.had.has_none.Given as goal

abbrev pub invariant-loop-i : goal.invariant-loop-i
invariant-loop-i g l = record {
  out : (f : g.row.F.Denot) → IsIn f (take l.i l.row) → had_by g.F.Named.named l.context.set f ≡ false;
  count : l.count ≡ count_of l.context.set l.site;
}
