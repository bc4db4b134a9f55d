use Rattle.session_log.proofs.Refusals.{one_fault}
use Rattle.session_log.proofs.laws.one_fault.Goals as goal

pub returns : goal.returns
returns c = one_fault
