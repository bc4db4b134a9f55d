use Rattle.cot_site.proofs.FormLists.{one_list}
use Rattle.cot_site.proofs.laws.one_list_of_forms.Goals as goal

pub returns : goal.returns
returns c = λ forms s fs are valid derived. one_list s.history fs (forms s) valid derived (are s valid)
