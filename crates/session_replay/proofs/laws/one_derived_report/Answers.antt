use Rattle.session_replay.proofs.Derivation.{derived_once}
use Rattle.session_replay.proofs.laws.one_derived_report.Goals as goal

pub returns : goal.returns
returns c = derived_once
