-- The first operations were played, what was played of them was written but for what stands in `out`, and no write failed.
use Rattle.std.proofs.Common.{◌≡◌, take}
use Rattle.past_view.specs.Playing.{played}
use Rattle.past_view.specs.Code.Playing.{IsPlayed, HasWritten}
use Rattle.past_view.proofs.playing.playback.Given as goal

abbrev pub invariant-loop-i : goal.invariant-loop-i
invariant-loop-i g l = record {
  before : IsPlayed l.site.history l.site.forms l.i l.cells.cells l.cells.text l.text.items l.apart;
  written : HasWritten (g.K.Sink.held l.fn.sink) (g.K.Sink.held l.sink) (played (take l.i l.site.history)) l.out.items;
  faults : g.K.Sink.faults l.sink ≡ g.K.Sink.faults l.fn.sink;
}
