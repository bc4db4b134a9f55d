use Rattle.transform_rec.specs.Derived.{Deriving}
use Rattle.transform_rec.specs.Laws.{inclusion_of, family_of}
use Rattle.form_rows.specs.RowSets.{Inertness}
use Rattle.form_rows.proofs.Passing.{pass_row}
use Rattle.form_rows.proofs.laws.passes_keep_rows.Goals as goal

pub returns : goal.returns
returns g c =
    let d : Deriving g.row.F.Denot =
    record {
      inclusion = inclusion_of g.F.Include;
      laws = c.derives.ensures.inclusion;
      family =
          family_of g.B.Bases c.args.bases.now;
      known = c.derives.ensures.family;
    } in
    let n : Inertness g.F.Include.over g.F.Include.IsInert =
    record { law = g.met.F.Include.inert_law; kept = g.met.F.Include.inert_over; back = g.met.F.Exclude.inert_back } in
    λ m xs C f fs ne df r. let p = pass_row d g.F.Include.IsInert n m xs C f fs ne df r in (p.form, p.row)
