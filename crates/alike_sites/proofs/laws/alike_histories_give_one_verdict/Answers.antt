use Rattle.alike_sites.proofs.Verdicts.{one_verdict}
use Rattle.alike_sites.proofs.laws.alike_histories_give_one_verdict.Goals as goal

pub returns : goal.returns
returns c = one_verdict
