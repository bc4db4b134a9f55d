-- The reader keeps what was done of all bytes; each line that is done leaves fewer.
use Rattle.std.proofs.Common.{length}
use Rattle.session_replay.specs.Readers.{Keeps}
use Rattle.session_replay.proofs.script.do_whole.Given as goal

abbrev pub invariant-loop-reader : goal.invariant-loop-reader
invariant-loop-reader l = Keeps l.reader l.fn.bytes l.out.items

abbrev pub decreases-loop-reader : goal.decreases-loop-reader
decreases-loop-reader l = length l.reader.input.lines
