-- So far `out` gained what the source lost, at most one byte more than an input may have.
use Rattle.std.proofs.Common.{◌≡◌, vec_len, ◌+◌, ◌-◌, ◌≤◌}
use Rattle.outside_io.specs.Code.Gathering.{Gathers}
use Rattle.outside_io.specs.declared.reading.TheConstants.{MAX_INPUT}
use Rattle.outside_io.proofs.reading.gather.Given as goal

abbrev pub invariant-loop-piece : goal.invariant-loop-piece
invariant-loop-piece g l = record {
  start : l.start ≡ vec_len l.fn.out;
  more : vec_len l.fn.out ≤ vec_len l.out;
  few : vec_len l.out ≤ vec_len l.fn.out + MAX_INPUT + 1;
  gathers : Gathers (g.S.Source.left l.fn.source) (g.S.Source.left l.source) l.fn.out.items l.out.items;
  faultless : g.S.Source.faults l.source ≡ g.S.Source.faults l.fn.source;
}

abbrev pub decreases-loop-piece : goal.decreases-loop-piece
decreases-loop-piece g l = vec_len l.initial.out + MAX_INPUT + 1 - vec_len l.out
