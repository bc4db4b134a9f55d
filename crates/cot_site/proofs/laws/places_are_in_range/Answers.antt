use Rattle.cot_site.proofs.LocalOps.{behind_named, shown_named}
use Rattle.cot_site.proofs.laws.places_are_in_range.Goals as goal

pub returns : goal.returns
returns c = λ h v few. (behind_named h few v, shown_named h few v)
