use Rattle.cot_site.proofs.FormLists.{computed_of, computed_lists}
use Rattle.cot_site.proofs.laws.form_lists_are_there.Goals as goal

pub returns : goal.returns
returns c = (computed_of, computed_lists)
