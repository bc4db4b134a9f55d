use Rattle.std.proofs.Common.{length}
use Rattle.cot_site.proofs.Settling.{releases_not_wait}
use Rattle.cot_site.proofs.laws.no_release_waits.Goals as goal

pub returns : goal.returns
returns c = λ s r m sound there. releases_not_wait (length s.waiting) s r m sound there
