use Rattle.std.proofs.Common.{subst}
use Rattle.script_text.specs.LeftLines.{InputData}
use Rattle.script_text.specs.Code.Keeping.{HasFrontLine, IsInput}
use Rattle.script_text.proofs.reading.stream.LineStream.known.Goals as goal

pub returns-clause-input : goal.returns-clause-input
returns-clause-input c = subst (λ (s : InputData). IsInput s) c.self.view_is c.self.invariant

pub returns-clause-front : goal.returns-clause-front
returns-clause-front c = subst (λ (s : InputData). HasFrontLine s.lines) c.self.view_is c.known.ensures.front
