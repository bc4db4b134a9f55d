use Rattle.session_log.proofs.Refusals.{one_refusal}
use Rattle.session_log.proofs.laws.one_refusal.Goals as goal

pub returns : goal.returns
returns c = one_refusal
