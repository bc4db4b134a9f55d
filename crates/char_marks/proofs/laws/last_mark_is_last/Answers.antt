use Rattle.char_marks.proofs.Latest.{last_is_last, none_no_last}
use Rattle.char_marks.proofs.laws.last_mark_is_last.Goals as goal

pub returns-clause-last : goal.returns-clause-last
returns-clause-last c = last_is_last

pub returns-clause-none : goal.returns-clause-none
returns-clause-none c = none_no_last
