use Rattle.session_log.proofs.TakingIn.{one_loaded, loaded_not_refused}
use Rattle.session_log.proofs.laws.one_loading.Goals as goal

pub returns : goal.returns
returns c site bytes s w = (λ t v. one_loaded site bytes s t w v, loaded_not_refused site bytes s w)
