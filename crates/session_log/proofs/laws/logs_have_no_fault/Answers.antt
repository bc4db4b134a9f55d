use Rattle.session_log.proofs.Frames.{log_no_fault}
use Rattle.session_log.proofs.laws.logs_have_no_fault.Goals as goal

pub returns : goal.returns
returns c = log_no_fault
