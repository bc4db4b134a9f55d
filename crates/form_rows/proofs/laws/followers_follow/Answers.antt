use Rattle.transform_rec.specs.Derived.{Deriving}
use Rattle.transform_rec.specs.Laws.{inclusion_of, family_of}
use Rattle.form_rows.proofs.Followers.{undo_form}
use Rattle.form_rows.proofs.laws.followers_follow.Goals as goal

pub returns : goal.returns
returns g c =
    let d : Deriving g.row.F.Denot =
    record {
      inclusion = inclusion_of g.F.Include;
      laws = c.derives.ensures.inclusion;
      family =
          family_of g.B.Bases c.args.bases.now;
      known = c.derives.ensures.family;
    } in
    λ follow m x before after C f gs law is out ne r. undo_form d follow law m x is.listed is.context is.form before after C f gs out ne r
