use Rattle.form_rows.proofs.laws.derives.Goals as goal

pub returns-clause-inclusion : goal.returns-clause-inclusion
returns-clause-inclusion g c = record {
  tp2 = g.met.F.Include.tp2;
  apart_sym = g.met.F.Include.apart_sym;
  apart_over = g.met.F.Include.apart_over;
  extent_over = g.met.F.Include.extent_over;
  bound_place = g.met.F.Include.bound_place;
  bound_over = g.met.F.Include.bound_over;
}

pub returns-clause-family : goal.returns-clause-family
returns-clause-family g c = record {
  causal = c.requires.causal;
  apart = λ m x i j ne h k. g.met.B.Bases.apart c.args.bases.now m x c.known.ensures i j ne h k;
  bounded = λ m i. g.met.B.Bases.bounded c.args.bases.now m c.known.ensures i;
}
