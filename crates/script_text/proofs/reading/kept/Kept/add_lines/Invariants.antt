use Rattle.std.proofs.Common.{length}
use Rattle.script_text.proofs.KeptLines.{Adding}
use Rattle.script_text.proofs.reading.kept.Kept.add_lines.Given as goal

abbrev pub invariant-loop-part : goal.invariant-loop-part
invariant-loop-part l = Adding l.fn.self l.fn.piece l.self l.rest

abbrev pub decreases-loop-part : goal.decreases-loop-part
decreases-loop-part l = length l.rest
