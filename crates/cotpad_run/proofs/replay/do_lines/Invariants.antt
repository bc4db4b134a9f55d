-- So far lines were done, and what they report was written, but for what stands in `out`.
use Rattle.std.proofs.Common.{ℕ, List, Option, length}
use Rattle.log_replies.specs.Outside.{Outside, told}
use Rattle.cotpad_run.specs.Code.Replaying.{KeepsAfter, IsReading}
use Rattle.cotpad_run.proofs.replay.do_lines.Given as goal

abbrev pub invariant-loop-sink : goal.invariant-loop-sink
invariant-loop-sink g l = record {
  keeps : KeepsAfter l.reader l.out.items;
  reading : (old : Outside) (left : Option (List ℕ)) (reads fed : ℕ)
      → IsReading old (told left reads (g.K.Sink.held l.fn.sink) (g.K.Sink.faults l.fn.sink)) l.fn.reader fed l.fn.out.items
      → IsReading old (told left reads (g.K.Sink.held l.sink) (g.K.Sink.faults l.sink)) l.reader fed l.out.items;
}

abbrev pub decreases-loop-sink : goal.decreases-loop-sink
decreases-loop-sink g l = length l.reader.input.lines
