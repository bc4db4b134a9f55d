use Rattle.script_text.proofs.InputLaws.{fed_twice, taken_first}
use Rattle.script_text.proofs.reading.stream.lines_stay_the_same.Goals as goal

pub returns-clause-cut : goal.returns-clause-cut
returns-clause-cut c = fed_twice

pub returns-clause-taken : goal.returns-clause-taken
returns-clause-taken c = taken_first
