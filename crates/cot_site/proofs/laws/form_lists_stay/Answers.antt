use Rattle.cot_site.proofs.FormLists.{lists_stay}
use Rattle.cot_site.proofs.laws.form_lists_stay.Goals as goal

pub returns : goal.returns
returns c = lists_stay
