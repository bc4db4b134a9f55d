use Rattle.form_rows.proofs.Leaders.{first_in, next_in}
use Rattle.form_rows.proofs.laws.groups_follow.Goals as goal

pub returns : goal.returns
returns c = (first_in, next_in)
