use Rattle.cot_site.proofs.LocalOps.{local_run_next, local_insert_next, local_delete_next, local_undo_next, local_redo_next}
use Rattle.cot_site.proofs.laws.local_operations_are_next.Goals as goal

pub returns : goal.returns
returns c = λ s o valid site. (
  local_run_next s valid site o,
  local_insert_next s valid site o,
  local_delete_next s valid site o,
  local_undo_next s valid site o,
  local_redo_next s valid site o,
)
