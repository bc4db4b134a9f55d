use Rattle.script_text.proofs.Takings.{none_exact, limit_exact, long_exact, fed_stays}
use Rattle.script_text.proofs.reading.stream.LineStream.take.Goals as goal

pub returns-clause-none : goal.returns-clause-none
returns-clause-none c = none_exact c.args.self.now c.take_line.new.self c.take_line.result c.take_line.ensures.taken

pub returns-clause-limit : goal.returns-clause-limit
returns-clause-limit c = limit_exact c.args.self.now c.take_line.new.self c.take_line.result c.take_line.ensures.taken

pub returns-clause-long : goal.returns-clause-long
returns-clause-long c = long_exact c.args.self.now c.take_line.new.self c.take_line.result c.known.ensures.front c.take_line.ensures.taken

pub returns-clause-fed : goal.returns-clause-fed
returns-clause-fed c = (fed_stays c.args.self.now c.take_line.new.self c.take_line.result c.take_line.ensures.taken).0

pub returns-clause-over : goal.returns-clause-over
returns-clause-over c = (fed_stays c.args.self.now c.take_line.new.self c.take_line.result c.take_line.ensures.taken).1
