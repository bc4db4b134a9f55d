use Rattle.std.proofs.Common.{arith}
use Rattle.script_text.specs.Answers.{Answers}
use Rattle.script_text.proofs.LineLaws.{answers_line, answers_found, answers_only, answers_form, answers_memory}
use Rattle.script_text.proofs.reading.parse.parse_line.Goals as goal

answer : (c : goal.After-text_line) → Answers c.args.bytes.now c.text_line.result
answer c = answers_line c.args.bytes.now c.in-Ok.text.now c.text_line.result (omega arith) c.in-Ok.ensures.cases c.text_line.ensures

pub returns-clause-found : goal.returns-clause-found
returns-clause-found c = answers_found c.args.bytes.now c.text_line.result (answer c)

pub returns-clause-only : goal.returns-clause-only
returns-clause-only c = answers_only c.args.bytes.now c.text_line.result (answer c)

pub returns-clause-form : goal.returns-clause-form
returns-clause-form c = answers_form c.args.bytes.now c.text_line.result (answer c)

pub returns-clause-memory : goal.returns-clause-memory
returns-clause-memory c = answers_memory c.args.bytes.now c.text_line.result (answer c)
