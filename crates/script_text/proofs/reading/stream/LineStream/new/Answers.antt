use Rattle.script_text.proofs.KeptLines.{no_lines}
use Rattle.script_text.proofs.Takings.{input_new}
use Rattle.std.proofs.Common.{refl}
use Rattle.script_text.proofs.reading.stream.LineStream.new.Goals as goal

pub invariant_of-result : goal.invariant_of-result
invariant_of-result c = rw (no_lines c.new.result c.new.ensures) input_new

pub returns : goal.returns
returns c = rw (no_lines c.new.result c.new.ensures) refl
