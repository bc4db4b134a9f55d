use Rattle.std.proofs.Common.{length}
use Rattle.cot_site.proofs.Settling.{release_at}
use Rattle.cot_site.proofs.laws.each_release_is_the_first.Goals as goal

pub returns : goal.returns
returns c = λ s done left r at. release_at (length s.waiting) s done r left at
