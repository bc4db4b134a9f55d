-- So far pieces were read and fed, the lines that they ended are done, and what these report was written.
use Rattle.std.proofs.Common.{◌≡◌, ◌+◌, ◌-◌, []}
use Rattle.outside_io.specs.declared.reading.TheConstants.{MAX_INPUT}
use Rattle.log_replies.specs.Outside.{told}
use Rattle.cotpad_run.specs.Code.Replaying.{IsReading}
use Rattle.cotpad_run.proofs.replay.answer_replay.Given as goal

abbrev pub invariant-loop-status : goal.invariant-loop-status
invariant-loop-status g l = record {
  reading : IsReading (told (g.S.Source.left l.fn.source) (g.S.Source.faults l.fn.source) (g.K.Sink.held l.fn.sink)
      (g.K.Sink.faults l.fn.sink))
      (told (g.S.Source.left l.source) (g.S.Source.faults l.source) (g.K.Sink.held l.sink) (g.K.Sink.faults l.sink)) l.reader l.fed
      l.out.items;
  empty : l.out.items ≡ [];
}

abbrev pub decreases-loop-status : goal.decreases-loop-status
decreases-loop-status g l = MAX_INPUT + 1 - l.fed
