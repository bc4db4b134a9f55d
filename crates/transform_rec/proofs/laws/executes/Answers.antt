use Rattle.transform_rec.proofs.laws.executes.Goals as goal

pub returns-clause-table : goal.returns-clause-table
returns-clause-table g c = record {
  inclusion = c.derives.ensures.inclusion;
  fits = λ s a b n. (g.met.F.Applies.fits s a).1 (b, n);
  tp1 = g.met.F.Applies.tp1;
  kept = λ s a h. (g.met.F.Applies.kept a).1 s h;
  added_length = λ a. (g.met.F.Applies.kept a).0;
  added_over = g.met.F.Applies.added_over;
}
