use Rattle.script_text.proofs.LineLaws.{line_found, line_only, spelling_is, spelling_utf8, one_line}
use Rattle.script_text.proofs.reading.parse.each_line_has_a_spelling.Goals as goal

pub returns-clause-spelled : goal.returns-clause-spelled
returns-clause-spelled c = spelling_is

pub returns-clause-utf8 : goal.returns-clause-utf8
returns-clause-utf8 c = spelling_utf8

pub returns-clause-one : goal.returns-clause-one
returns-clause-one c = one_line

pub returns-clause-found : goal.returns-clause-found
returns-clause-found c = λ bs l. (line_found bs l, line_only bs l)
