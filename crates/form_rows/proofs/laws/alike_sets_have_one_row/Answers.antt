use Rattle.std.proofs.Common.{false}
use Rattle.transform_rec.specs.Derived.{Deriving}
use Rattle.transform_rec.specs.Laws.{inclusion_of, family_of}
use Rattle.form_rows.specs.RowSets.{Inertness}
use Rattle.std.proofs.Common.{refl}
use Rattle.std.proofs.lemmas.Bool.{both_ways}
use Rattle.transform_rec.specs.Sets.{none}
use Rattle.transform_rec.proofs.CallerLemmas.{book_run}
use Rattle.form_rows.proofs.Alike.{row_alike}
use Rattle.form_rows.proofs.laws.alike_sets_have_one_row.Goals as goal

pub returns : goal.returns
returns g c =
    let d : Deriving g.row.F.Denot =
    record {
      inclusion = inclusion_of g.F.Include;
      laws = c.derives.ensures.inclusion;
      family =
          family_of g.B.Bases c.args.bases.now;
      known = c.derives.ensures.family;
    } in
    let n : Inertness g.F.Include.over g.F.Include.IsInert =
    record { law = g.met.F.Include.inert_law; kept = g.met.F.Include.inert_over; back = g.met.F.Exclude.inert_back } in
    λ C E fs one other left right r.
    row_alike d g.F.Include.IsInert n d.family.members none C E fs
    (record {
      path = book_run d.family d.known.causal;
      left = λ z h. absurd (both_ways false refl h);
      right =
          λ z h. absurd (both_ways false refl h);
      one = one;
      other = other;
      alike = record { left = left; right = right };
    }) r
