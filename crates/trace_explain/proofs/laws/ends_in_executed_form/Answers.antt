use Rattle.trace_explain.proofs.ExecutedForms.{ends_executed}
use Rattle.trace_explain.proofs.laws.ends_in_executed_form.Goals as goal

pub returns : goal.returns
returns c h fs m i f lines s forms at got t = ends_executed h fs m i f lines s forms at got t
