-- So far the reader was fed what the source lost, at most one byte more than an input may have.
use Rattle.std.proofs.Common.{◌≡◌, ◌+◌, ◌-◌, ◌≤◌}
use Rattle.outside_io.specs.declared.reading.TheConstants.{MAX_INPUT}
use Rattle.log_replies.specs.Code.Loading.{Feeds}
use Rattle.log_replies.proofs.loaded.feed_all.Given as goal

abbrev pub invariant-loop-read : goal.invariant-loop-read
invariant-loop-read g l = record {
  few : l.read ≤ MAX_INPUT + 1;
  feeds : Feeds l.fn.reader.site (g.S.Source.left l.fn.source) (g.S.Source.left l.source) l.read l.reader;
  faultless : g.S.Source.faults l.source ≡ g.S.Source.faults l.fn.source;
}

abbrev pub decreases-loop-read : goal.decreases-loop-read
decreases-loop-read g l = MAX_INPUT + 1 - l.read
