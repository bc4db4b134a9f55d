use Rattle.cot_site.proofs.Verdicts.{integrated_next, integrated_alone, next_integrated}
use Rattle.cot_site.proofs.laws.integrated_operations_are_next.Goals as goal

pub returns : goal.returns
returns c = λ h w o valid formed. (
  λ e. (integrated_next h w o valid formed e, integrated_alone h w o valid formed e),
  λ next. next_integrated h w o valid formed next.0 next.1,
)
