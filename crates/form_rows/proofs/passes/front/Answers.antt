use Rattle.std.proofs.Common.{◌∙◌, ◌-◌, ap, arith, take}
use Rattle.form_rows.specs.RowSets.{front_of}
use Rattle.form_rows.proofs.Codes.{front_on}
use Rattle.form_rows.proofs.passes.front.Goals as goal

pub loop-i-preserved : goal.loop-i-preserved
loop-i-preserved g c = record {
  within = omega arith;
  form = ap (λ f. front_of g.F.Exclude.back f (take (c.loop-i.i - 1) c.args.row.now)) c.exclude-f.ensures
      ∙ front_on g.F.Exclude.back c.loop-i.f c.index-row-i.result c.loop-i.i (c.loop-i.i - 1) c.args.row.now
      (front_of g.F.Exclude.back c.args.form c.args.row.now) (omega arith) (omega arith) c.index-row-i.is c.loop-i.invariant.form;
}
