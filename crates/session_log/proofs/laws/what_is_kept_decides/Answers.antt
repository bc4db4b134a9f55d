use Rattle.session_log.proofs.Ones.{one_loaded_on, one_unloaded_on}
use Rattle.session_log.proofs.laws.what_is_kept_decides.Goals as goal

pub returns : goal.returns
returns c = λ r a b more ka kb. (
  (λ s l. one_loaded_on c.logs_have_no_fault.ensures c.one_loading.ensures r a b more s ka kb l),
  (λ why u. one_unloaded_on c.logs_have_no_fault.ensures c.one_refusal.ensures r a b more why ka kb u),
)
