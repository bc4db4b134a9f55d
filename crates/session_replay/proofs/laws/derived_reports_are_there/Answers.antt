use Rattle.session_replay.proofs.Derivation.{report_derived}
use Rattle.session_replay.proofs.laws.derived_reports_are_there.Goals as goal

pub returns : goal.returns
returns c = report_derived
