use Rattle.alike_sites.proofs.Making.{run_same, delete_same, undo_same, redo_same, run_after, delete_after, undone_after, redone_after}
use Rattle.alike_sites.proofs.laws.alike_sites_make_the_same.Goals as goal

pub returns : goal.returns
returns c = λ h k s t a. (
  run_same h k s t a,
  delete_same h k s t a,
  undo_same h k s t a,
  redo_same h k s t a,
  run_after h k s t a,
  delete_after h k s t a,
  undone_after h k s t a,
  redone_after h k s t a,
)
