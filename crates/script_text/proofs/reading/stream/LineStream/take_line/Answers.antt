use Rattle.std.proofs.Common.{subst, Err}
use Rattle.script_text.specs.Streams.{TakesLine}
use Rattle.script_text.specs.LeftLines.{InputData}
use Rattle.script_text.specs.Code.Keeping.{lines_kept}
use Rattle.script_text.proofs.Takings.{refused_before}
use Rattle.script_text.proofs.reading.stream.LineStream.take_line.Goals as goal

pub returns-in-Some-clause-taken : goal.returns-in-Some-clause-taken
returns-in-Some-clause-taken c =
    subst (λ (s : InputData). TakesLine s (Err c.in-Some.why) s) c.self.view_is
    (refused_before (record {
      lines = lines_kept c.self.inside.lines;
      fed = c.self.inside.fed;
      over = c.self.inside.over;
      refusal =
          c.self.inside.refusal;
    }) c.in-Some.why c.self.invariant c.in-Some.is)
