use Rattle.std.proofs.Common.{length}
use Rattle.cot_site.proofs.Settling.{releases_few}
use Rattle.cot_site.proofs.laws.releases_are_few.Goals as goal

pub returns : goal.returns
returns c = λ s. releases_few (length s.waiting) s
