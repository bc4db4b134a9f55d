use Rattle.cot_site.proofs.FormLists.{lists_show}
use Rattle.cot_site.proofs.laws.form_lists_show_the_histories.Goals as goal

pub returns : goal.returns
returns c = lists_show
