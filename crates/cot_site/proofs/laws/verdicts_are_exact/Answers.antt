use Rattle.cot_site.proofs.Verdicts.{verdicts_exact}
use Rattle.cot_site.proofs.laws.verdicts_are_exact.Goals as goal

pub returns : goal.returns
returns c = verdicts_exact
