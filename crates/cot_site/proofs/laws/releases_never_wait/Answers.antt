use Rattle.cot_site.proofs.Releases.{release_not_waits}
use Rattle.cot_site.proofs.laws.releases_never_wait.Goals as goal

pub returns : goal.returns
returns c = λ s r m sound is. release_not_waits s r m sound.history sound.waiting is
