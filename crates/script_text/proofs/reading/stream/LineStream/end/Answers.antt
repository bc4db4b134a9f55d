use Rattle.script_text.specs.Code.Keeping.{lines_kept}
use Rattle.script_text.proofs.Takings.{input_over}
use Rattle.script_text.proofs.reading.stream.LineStream.end.Goals as goal

pub invariant_of-self : goal.invariant_of-self
invariant_of-self c =
    input_over (record {
      lines = lines_kept c.self.inside.lines;
      fed = c.self.inside.fed;
      over = c.self.inside.over;
      refusal =
          c.self.inside.refusal;
    }) c.self.invariant
