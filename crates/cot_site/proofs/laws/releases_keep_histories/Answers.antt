use Rattle.std.proofs.Common.{length}
use Rattle.cot_site.proofs.Settling.{sound_along}
use Rattle.cot_site.proofs.laws.releases_keep_histories.Goals as goal

pub returns : goal.returns
returns c = λ s done left sound at. sound_along (length s.waiting) s done left sound at
