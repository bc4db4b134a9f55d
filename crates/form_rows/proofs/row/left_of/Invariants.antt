use Rattle.std.proofs.Common.{◌≡◌, [], drop}
use Rattle.form_rows.specs.Names.{had_by}
use Rattle.form_rows.specs.RowSets.{taken_out, TakingFits}
use Rattle.form_rows.proofs.row.left_of.Given as goal

abbrev pub invariant-loop-i : goal.invariant-loop-i
invariant-loop-i g l = record {
  fits : TakingFits g.F.Include.over g.F.Exclude.back g.F.Include.place g.F.Include.extent (had_by g.F.Named.named l.context.set)
      l.left.items (drop l.i l.row);
  made : taken_out g.F.Include.over g.F.Exclude.back (had_by g.F.Named.named l.context.set) l.left.items (drop l.i l.row)
      ≡ taken_out g.F.Include.over g.F.Exclude.back (had_by g.F.Named.named l.context.set) [] l.fn.row;
}
